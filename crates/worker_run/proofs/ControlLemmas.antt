-- The control side over segments: one, and then those behind it.
use Rattle.std.proofs.Common.{◌≡◌, ℕ, zero, suc, ◌+◌, ◌≤◌, List, [], ◌∷◌, ◌++◌, length, map, All, Contains, refl, sym, ap, subst, ◌∙◌, append_assoc, arith, length-append}
use Rattle.std.proofs.lemmas.List.{append-nil, map-append}
use Rattle.std.proofs.lemmas.List.Elements.{All-tail}
use Rattle.std.proofs.lemmas.Grind.{flat_map-append}
use Rattle.control_files.specs.declared.segments.Segment.{Segment}
use Rattle.control_files.specs.declared.segments.SegmentHead.{SegmentHead}
use Rattle.control_files.specs.Segments.{numbers, segments_bytes}
use Rattle.control_files.specs.Steps.{segment_of}
use Rattle.session_machine.specs.declared.events.Effects.{Effects}
use Rattle.session_machine.specs.declared.groups.Sessions.{Sessions}
use Rattle.session_machine.specs.declared.machines.Session.{Session}
use Rattle.session_machine.specs.Events.{Happening}
use Rattle.session_machine.specs.Groups.{Entry, entry}
use Rattle.session_machine.specs.Peers.{AllHold}
use Rattle.sfc_routes.specs.declared.route_changes.RouteChange.{RouteChange}
use Rattle.sfc_routes.specs.LastWords.{Stands as AreAfter}
use Rattle.control_histories.specs.Happenings.{happens, said_by, told_by}
use Rattle.control_histories.specs.Logs.{Hears, changes_of}
use Rattle.control_histories.specs.Replies.{reply_bytes, reply_to}
use Rattle.control_histories.proofs.ReplyLemmas.{bytes_behind}
use Rattle.worker_run.specs.declared.controls.Control.{Control}
use Rattle.worker_run.specs.Controls.{Follows, Hearing, Ready, Took}

-- ---- conditions

first_alone : {A : Type 0} (P : A → Type 0) (x : A) (xs : List A) → All P (x ∷ xs) → All P (x ∷ [])
first_alone P x xs all zero d lt = all 0 x (omega arith)
first_alone P x xs all (suc k) d lt = absurd (omega (arith, lt))

pub ready_first : (control : Control) (s : Segment) (ss : List Segment) → Ready control (s ∷ ss) → Ready control (s ∷ [])
ready_first control s ss x = record {
  local = x.local;
  peers = x.peers;
  with_peers = x.with_peers;
  of_peers = first_alone (λ (t : Segment). Contains (numbers x.peers) t.peer) s ss x.of_peers;
  short = first_alone (λ (t : Segment). length t.bytes ≤ 65535) s ss x.short;
  room = (x.room.0, x.room.1, omega (arith, x.room.2));
}

pub ready_rest : (old new : Control) (s : Segment) (ss : List Segment)
    → map (λ (t : Session). t.side) new.sessions.sessions.items ≡ map (λ (t : Session). t.side) old.sessions.sessions.items
    → ((most : ℕ) → AllHold most old.sessions.sessions.items → AllHold (most + length s.bytes) new.sessions.sessions.items)
    → Ready old (s ∷ ss) → Ready new ss
ready_rest old new s ss sides count x = record {
  local = x.local;
  peers = x.peers;
  with_peers = sides ∙ x.with_peers;
  of_peers = All-tail (λ (t : Segment). Contains (numbers x.peers) t.peer) s ss x.of_peers;
  short = All-tail (λ (t : Segment). length t.bytes ≤ 65535) s ss x.short;
  room = (x.room.0 + length s.bytes, count x.room.0 x.room.1, omega (arith, x.room.2));
}

-- ---- steps

abbrev pub took_none : (control : Control) (history : List Segment) (log : List Entry) (replies : List ℕ) → Follows control history log → Took control history log [] replies replies
took_none control history log replies x = record {
  now = [];
  logs = refl;
  follows = subst (λ (l : List Entry). Follows control (history ++ []) l) (sym (append-nil log)) (subst (λ (h : List Segment). Follows control h log) (sym (append-nil history)) x);
  replies = sym (append-nil replies);
}

abbrev pub took_more : (new : Control) (history : List Segment) (log : List Entry) (s : Segment) (ss : List Segment) (first mid last : List ℕ) (control : Control)
    → (x : Took control history log (s ∷ []) first mid) → Took new (history ++ s ∷ []) (log ++ x.now) ss mid last → Took new history log (s ∷ ss) first last
took_more new history log s ss first mid last control x y = record {
  now = x.now ++ y.now;
  logs = map-append told_by x.now y.now ∙ ap (λ (l : List (ℕ × Happening)). l ++ map told_by y.now) x.logs ∙ ap (λ (l : List (ℕ × Happening)). said_by s ∷ l) y.logs;
  follows = subst (λ (l : List Entry). Follows new (history ++ s ∷ ss) l) (append_assoc log x.now y.now)
      (subst (λ (h : List Segment). Follows new h ((log ++ x.now) ++ y.now)) (append_assoc history (s ∷ []) ss) y.follows);
  replies =
      y.replies ∙ ap (λ (l : List ℕ). l ++ reply_bytes ss y.now) x.replies ∙ append_assoc first (reply_bytes (s ∷ []) x.now) (reply_bytes ss y.now)
      ∙ ap (λ (l : List ℕ). first ++ l) (sym (bytes_behind (s ∷ []) ss x.now y.now x.logs));
}

pub changes_more : (log : List Entry) (e : Entry) → changes_of (log ++ e ∷ []) ≡ changes_of log ++ e.effects.changes
changes_more log e =
    flat_map-append (λ (x : Entry). x.effects.changes) log (e ∷ []) ∙ ap (λ (l : List RouteChange). changes_of log ++ l) (append-nil e.effects.changes)

pub hearing : (sessions : Sessions) (history : List Segment) (log : List Entry) (s : Segment) (head : SegmentHead) (effects : Effects) (before after : List ℕ) → segment_of head s.bytes ≡ s
    → Hears sessions (history ++ segment_of head s.bytes ∷ []) (log ++ entry head.peer (happens (segment_of head s.bytes)) effects ∷ [])
    → after ≡ before ++ segments_bytes (reply_to head.peer head.moment head.position effects.bytes) → Hearing sessions history log s effects.changes before after
hearing sessions history log s head effects before after is hears replies = record {
  now = entry s.peer (happens s) effects;
  logs = refl;
  hears = subst (λ (t : Segment). Hears sessions (history ++ t ∷ []) (log ++ entry t.peer (happens t) effects ∷ [])) is hears;
  changes_are = refl;
  replies =
      replies ∙ ap (λ (t : Segment). before ++ segments_bytes (reply_to t.peer t.moment t.position effects.bytes)) is
      ∙ ap (λ (l : List Segment). before ++ segments_bytes l) (sym (append-nil (reply_to s.peer s.moment s.position effects.bytes)));
}

-- the routes take what was heard
abbrev pub took_one : (new : Control) (history : List Segment) (log : List Entry) (s : Segment) (changes : List RouteChange) (before after : List ℕ)
    → Hearing new.sessions history log s changes before after → AreAfter new.routes (changes_of log ++ changes) → new.version ≡ length (changes_of log) + length changes
    → Took new history log (s ∷ []) before after
took_one new history log s changes before after x routes version =
    let more : changes_of (log ++ x.now ∷ []) ≡ changes_of log ++ changes = changes_more log x.now ∙ ap (λ (l : List RouteChange). changes_of log ++ l) (sym x.changes_are) in
    record {
      now = x.now ∷ [];
      logs = x.logs;
      follows = record {
        hears = x.hears;
        routes = subst (AreAfter new.routes) (sym more) routes;
        version = version ∙ sym (length-append (changes_of log) changes) ∙ ap length (sym more);
      };
      replies = x.replies;
    }
