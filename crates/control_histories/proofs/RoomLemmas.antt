-- How many bytes sessions got, at most, and how many a segment brings.
use Rattle.std.proofs.Common.{ℕ, ◌≤◌, Bool, true, false, cond, eqb, List, length, arith}
use Rattle.control_files.specs.declared.segments.Segment.{Segment}
use Rattle.session_machine.specs.declared.machines.Session.{Session}
use Rattle.session_machine.specs.Events.{closes, comes, connects}
use Rattle.session_machine.specs.Sessions.{bytes_of}
use Rattle.session_machine.specs.Peers.{AllHold, size_of}
use Rattle.control_histories.specs.Happenings.{happens}

pub hold_more : (list : List Session) (few more : ℕ) → AllHold few list → few ≤ more → AllHold more list
hold_more list few more all le = λ k d below. let here = all k d below in omega (arith, here, le)

by_kind : (first second : Bool) (s : Segment) → size_of (cond first (connects s.moment) (cond second (comes s.moment s.bytes) (closes s.moment))) ≤ length s.bytes
by_kind true second s = omega arith
by_kind false true s = omega arith
by_kind false false s = omega arith

pub brings_few : (s : Segment) → size_of (happens s) ≤ length s.bytes
brings_few s = by_kind (eqb s.kind 1) (eqb s.kind 2) s
