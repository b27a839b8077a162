-- Where a walk stands after each step.
use Rattle.std.proofs.Common.{◌≡◌, ℕ, ◌+◌, ◌≤◌, ◌<◌, ◌≢◌, Bool, List, [], ◌∷◌, ◌++◌, length, take, drop, Option, None, Some, Ok, Err, sym, ap, subst, ◌∙◌, append_assoc, refl, inl, inr, arith}
use Rattle.std.specs.Option.{IfSome, IsNone}
use Rattle.std.proofs.lemmas.List.{append-nil, length-append, take-append-le, take-take}
use Rattle.wire_base.specs.Lists.{refilled}
use Rattle.sfc_desk.specs.declared.ports.Port.{Port}
use Rattle.sfc_desk.specs.declared.ports.Port.TheVariants as ports
use Rattle.sfc_desk.specs.Desks.{Shown, Files, Moves}
use Rattle.pcap_io.specs.declared.forms.Form.{Form}
use Rattle.pcap_io.specs.declared.frames.Captured.{Captured}
use Rattle.pcap_io.specs.declared.frames.PacketHead.{PacketHead}
use Rattle.pcap_io.specs.declared.reasons.Refusal.{Refusal}
use Rattle.pcap_io.specs.declared.reasons.CaptureReason.TheVariants as reasons
use Rattle.pcap_io.specs.Heads.{file_head}
use Rattle.pcap_io.specs.Captures.{packet}
use Rattle.pcap_io.specs.Kept.{Kept}
use Rattle.pcap_io.specs.Calls.{lent_frame, HeldIn, RefusedAt, RefusedIn}
use Rattle.pcap_io.specs.Lending.{with_room}
use Rattle.pcap_io.specs.Streams.{Stands, StandsIn, NotBegun, NextLent, Begin}
use Rattle.pcap_io.specs.declared.reasons.CaptureReason.{CaptureReason}
use Rattle.pcap_io.specs.declared.reasons.CaptureFault.{CaptureFault}
use Rattle.pcap_io.specs.declared.reasons.CaptureFault.TheVariants as ends
use Rattle.pcap_io.specs.Refusals.{told}
use Rattle.pcap_io.specs.Reads.{Reads, Finishes}
use Rattle.pcap_io.specs.Egress.{packets_left, egress_of}
use Rattle.pcap_io.proofs.StreamLemmas.{stands_same}
use Rattle.pcap_io.proofs.ReadsLemmas.{size_taken, reads_refused}
use Rattle.commands.specs.Fronts.{IsFront}
use Rattle.commands.specs.Pieces.{NoneBound}
use Rattle.commands.proofs.PlaceLemmas.{same_or_other}
use Rattle.record_text.specs.declared.records.End.{End}
use Rattle.static_walks.specs.declared.walks.StaticPath.{StaticPath}
use Rattle.static_walks.specs.Walks.{EachWalksTo, WalksTo}
use Rattle.forwarder.specs.Workspaces.{taken_in}
use Rattle.walk_command.specs.declared.walk_streams.WalkFault.{WalkFault}
use Rattle.walk_command.specs.declared.walk_streams.WalkFault.TheVariants as fault
use Rattle.walk_command.specs.WalkCommand.{leaving_of, BeginsWithFrames, Writes}
use Rattle.walk_command.specs.WalkSteps.{kept_at, Follows, State, Fronts, Begins, Puts, Reaches, Known, Ends, IsPutFault, NeverReads, NeverPuts, IsShortWithin}
use Rattle.walk_command.proofs.EgressLemmas.{zip_and_one, egress_and_one}

-- ---- what was taken

-- of a room that was written, the first bytes are those that were written
read_refilled : (old into : List ℕ) (n : ℕ) → n ≤ length into → n ≤ length old → take n (refilled old into) ≡ take n into
read_refilled old into n le le' =
    take-take n (length old) (into ++ drop (length into) old) le' ∙ take-append-le n into (drop (length into) old) le

-- what was read into the room joins what was taken
pub follows_more : (feed new : Kept) (input left left' into : List ℕ) (given : List Captured) (n : ℕ) → n ≤ length into → n ≤ length feed.room → left ≡ take n into ++ left' → Follows feed input left given → ((taken : List ℕ) → Stands (with_room feed into) taken given → Stands new (taken ++ take n (refilled feed.room into)) given) → Follows new input left' given
follows_more feed new input left left' into given n le le' moved f history = record {
  taken = f.taken ++ take n into;
  joined = append_assoc f.taken (take n into) left' ∙ ap (λ l. f.taken ++ l) (sym moved) ∙ f.joined;
  stands = subst (λ l. Stands new (f.taken ++ l) given) (read_refilled feed.room into n le le')
      (history f.taken (stands_same feed.form feed (with_room feed into) f.taken given refl refl refl f.stands));
}

pub follows_same : (feed new : Kept) (input left : List ℕ) (given : List Captured) → Follows feed input left given → ((taken : List ℕ) → Stands feed taken given → Stands new taken given) → Follows new input left given
follows_same feed new input left given f history = record { taken = f.taken; joined = f.joined; stands = history f.taken f.stands }

-- ---- fronts

begins_frames_in : (form : Option Form) (feed : Kept) (input left taken : List ℕ) (given : List Captured) → taken ++ left ≡ input → StandsIn form feed taken given → BeginsWithFrames form input given
begins_frames_in None feed input left taken given joined s = s.nothing
begins_frames_in (Some form) feed input left taken given joined s = record {
  front = s.front;
  rest = feed.rest ++ left;
  is_capture = s.is_capture;
  joined = sym joined ∙ ap (λ l. l ++ left) s.joined ∙ append_assoc s.front feed.rest left;
}

-- what was written of what stands and waits is a front of what the frames leave
pub front_of_state : (path : StaticPath) (input left out written : List ℕ) (feed : Kept) → State path input left out feed → IsFront written out → Fronts path input written
front_of_state path input left out written feed s front = record {
  form = feed.form;
  frames = s.given;
  ends = s.ends;
  begins = begins_frames_in feed.form feed input left s.follows.taken s.given s.follows.joined s.follows.stands;
  walked = s.walked;
  front = (front.0, front.1 ∙ s.out_is);
}

-- ---- steps

nothing_given : (form : Option Form) (feed : Kept) (taken : List ℕ) (given : List Captured) → form ≡ None → StandsIn form feed taken given → given ≡ []
nothing_given form feed taken given is s =
    let at : NotBegun feed taken given = subst (λ f. StandsIn f feed taken given) is s in
    at.nothing

nothing_left : (form : Form) (given : List Captured) (ends : List End) → given ≡ [] → packets_left form given (leaving_of given ends) ≡ []
nothing_left form given ends none = ap (λ (l : List Captured). packets_left form l (leaving_of l ends)) none

-- the header was used up, and is put behind what was put
pub state_begun : (path : StaticPath) (input left out : List ℕ) (old new : Kept) (form : Form) → old.form ≡ None → new.form ≡ Some form → ((taken : List ℕ) (given : List Captured) → Stands old taken given → Stands new taken given) → State path input left out old → State path input left (out ++ file_head form) new
state_begun path input left out old new form was is history s =
    let none : s.given ≡ [] = nothing_given old.form old s.follows.taken s.given was s.follows.stands in
    let before : out ≡ [] = s.out_is ∙ ap (λ (f : Option Form). egress_of f s.given (leaving_of s.given s.ends)) was in
    let after : egress_of new.form s.given (leaving_of s.given s.ends) ≡ file_head form =
    ap (λ (f : Option Form). egress_of f s.given (leaving_of s.given s.ends)) is
    ∙ ap (λ l. file_head form ++ l) (nothing_left form s.given s.ends none)
    ∙ append-nil (file_head form) in
    record {
      given = s.given;
      ends = s.ends;
      follows = follows_same old new input left s.given s.follows (λ taken st. history taken s.given st);
      walked = s.walked;
      out_is = ap (λ l. l ++ file_head form) before ∙ sym after;
    }

-- a frame was given, and what it leaves is put behind what was put
pub state_next : (path : StaticPath) (input left out : List ℕ) (old new : Kept) (form : Form) (head : PacketHead) (end : End) → old.form ≡ Some form → new.form ≡ Some form → new.lent ≡ packet form (lent_frame head new) → EachWalksTo path.spi path.count (drop 16 new.lent) end
    → ((taken : List ℕ) (given : List Captured) → Stands old taken given → Stands new taken (given ++ lent_frame head new ∷ [])) → State path input left out old → State path input left (out ++ kept_at end new.lent) new
state_next path input left out old new form head end was is lent walk history s =
    let frame : Captured = lent_frame head new in
    let before : out ≡ egress_of (Some form) s.given (leaving_of s.given s.ends) = s.out_is ∙ ap (λ (f : Option Form). egress_of f s.given (leaving_of s.given s.ends)) was in
    let after : egress_of new.form (s.given ++ frame ∷ []) (leaving_of (s.given ++ frame ∷ []) (s.ends ++ end ∷ [])) ≡ egress_of (Some form) s.given (leaving_of s.given s.ends) ++ kept_at end (packet form frame) =
    ap (λ (f : Option Form). egress_of f (s.given ++ frame ∷ []) (leaving_of (s.given ++ frame ∷ []) (s.ends ++ end ∷ []))) is
    ∙ egress_and_one (λ frame end. WalksTo path.spi path.count (taken_in frame.bytes frame.original) end) form s.given s.ends frame end s.walked in
    record {
      given = s.given ++ frame ∷ [];
      ends = s.ends ++ end ∷ [];
      follows = record { taken = s.follows.taken; joined = s.follows.joined; stands = history s.follows.taken s.given s.follows.stands };
      walked = zip_and_one (λ frame end. WalksTo path.spi path.count (taken_in frame.bytes frame.original) end) s.given s.ends frame end s.walked (walk (taken_in frame.bytes frame.original) refl);
      out_is = ap (λ l. l ++ kept_at end new.lent) before ∙ ap (λ l. egress_of (Some form) s.given (leaving_of s.given s.ends) ++ kept_at end l) lent ∙ sym after;
    }

-- the same frames, where the form is known
pub state_same : (path : StaticPath) (input left out : List ℕ) (old new : Kept) → new.form ≡ old.form → ((taken : List ℕ) (given : List Captured) → Stands old taken given → Stands new taken given) → State path input left out old → State path input left out new
state_same path input left out old new is history s = record {
  given = s.given;
  ends = s.ends;
  follows = follows_same old new input left s.given s.follows (λ taken st. history taken s.given st);
  walked = s.walked;
  out_is = s.out_is ∙ ap (λ (f : Option Form). egress_of f s.given (leaving_of s.given s.ends)) (sym is);
}

-- what holds of the value that is there
pub if_some : {T : Type 0} (o : Option T) (f : T) (P : T → Type 0) → o ≡ Some f → IfSome o P → P f
if_some {T = T} o f P is holds = subst (λ (x : Option T). IfSome x P) is holds

pub next_some : (o : Option PacketHead) (head : PacketHead) (feed : Kept) (taken : List ℕ) (given : List Captured) → o ≡ Some head → NextLent (Ok o) feed taken given → Stands feed taken (given ++ lent_frame head feed ∷ [])
next_some o head feed taken given is n = subst (λ (x : Option PacketHead). NextLent (Ok x) feed taken given) is n

pub next_none : (o : Option PacketHead) (feed : Kept) (taken : List ℕ) (given : List Captured) → o ≡ None → NextLent (Ok o) feed taken given → Stands feed taken given × HeldIn feed.form feed.rest
next_none o feed taken given is n = subst (λ (x : Option PacketHead). NextLent (Ok x) feed taken given) is n

pub begin_some : (o : Option Form) (form : Form) (feed : Kept) (taken : List ℕ) (given : List Captured) → o ≡ Some form → Begin (Ok o) feed taken given → Stands feed taken given × (feed.form ≡ Some form)
begin_some o form feed taken given is n = subst (λ (x : Option Form). Begin (Ok x) feed taken given) is n

pub begins_some : (path : StaticPath) (input left out written : List ℕ) (feed : Kept) (o : Option Form) (form : Form) → o ≡ Some form → Begins path input left out written feed (Ok o) → State path input left out feed
begins_some path input left out written feed o form is b =
    let both : State path input left out feed × (feed.form ≡ Some form) = subst (λ (x : Option Form). Begins path input left out written feed (Ok x)) is b in
    both.0

pub begins_none : (path : StaticPath) (input left out written : List ℕ) (feed : Kept) (o : Option Form) → o ≡ None → Begins path input left out written feed (Ok o) → State path input left out feed × HeldIn feed.form feed.rest
begins_none path input left out written feed o is b = subst (λ (x : Option Form). Begins path input left out written feed (Ok x)) is b

-- a fault of the header is one of the packets
pub begins_puts : (path : StaticPath) (input left out written : List ℕ) (feed : Kept) (e : WalkFault) → Begins path input left out written feed (Err e) → Puts path input left out written feed (Err e)
begins_puts path input left out written feed fault.Write h = h
begins_puts path input left out written feed fault.OutOfMemory h = h
begins_puts path input left out written feed fault.Read h = h
begins_puts path input left out written feed fault.Long h = h
begins_puts path input left out written feed (fault.Capture r) h = h

-- a piece was read, and nothing was written
pub state_read : (path : StaticPath) (input left left' out out' : List ℕ) (old new : Kept) → new.form ≡ old.form → out' ≡ out → ((given : List Captured) → Follows old input left given → Follows new input left' given) → State path input left out old → State path input left' out' new
state_read path input left left' out out' old new is same follows s = record {
  given = s.given;
  ends = s.ends;
  follows = follows s.given s.follows;
  walked = s.walked;
  out_is = same ∙ s.out_is ∙ ap (λ (f : Option Form). egress_of f s.given (leaving_of s.given s.ends)) (sym is);
}

-- the input is at least as long as what was taken of it
pub long_input : (feed : Kept) (input left : List ℕ) (given : List Captured) (n : ℕ) → Follows feed input left given → n < feed.place + length feed.rest → n < length input
long_input feed input left given n f long =
    let size = size_taken feed.form feed f.taken given f.stands in
    let sum = ap length f.joined in
    let parts = length-append f.taken left in
    omega (arith, size, sum, parts, long)

-- and no longer, where nothing is left
pub short_input : (feed : Kept) (input left : List ℕ) (given : List Captured) (n : ℕ) → Follows feed input left given → left ≡ [] → feed.place + length feed.rest ≤ n → length input ≤ n
short_input feed input left given n f none short =
    let size = size_taken feed.form feed f.taken given f.stands in
    let sum = ap length f.joined in
    let parts = length-append f.taken left in
    let nothing = ap length none in
    omega (arith, size, sum, parts, nothing, short)

-- bytes that were put where they were to be
pub state_put : (path : StaticPath) (input left out out' : List ℕ) (feed : Kept) → out' ≡ out → State path input left out feed → State path input left out' feed
state_put path input left out out' feed is s = record { given = s.given; ends = s.ends; follows = s.follows; walked = s.walked; out_is = is ∙ s.out_is }

-- a fault of a put
pub put_fault_begins : (path : StaticPath) (input left out written : List ℕ) (feed : Kept) (e : WalkFault) (then now : _) → IsPutFault (Err e) then now → Fronts path input written → Begins path input left out written feed (Err e)
put_fault_begins path input left out written feed fault.Write then now is front = front
put_fault_begins path input left out written feed fault.OutOfMemory then now is front = front
put_fault_begins path input left out written feed fault.Read then now is front = absurd is
put_fault_begins path input left out written feed fault.Long then now is front = absurd is
put_fault_begins path input left out written feed (fault.Capture r) then now is front = absurd is

pub put_fault_puts : (path : StaticPath) (input left out written : List ℕ) (feed : Kept) (e : WalkFault) (then now : _) → IsPutFault (Err e) then now → Fronts path input written → Puts path input left out written feed (Err e)
put_fault_puts path input left out written feed fault.Write then now is front = front
put_fault_puts path input left out written feed fault.OutOfMemory then now is front = front
put_fault_puts path input left out written feed fault.Read then now is front = absurd is
put_fault_puts path input left out written feed fault.Long then now is front = absurd is
put_fault_puts path input left out written feed (fault.Capture r) then now is front = absurd is

-- ---- between the ports

pub capture_is_no_egress : ports.Capture ≢ ports.Egress
capture_is_no_egress = λ e. cc

pub egress_is_no_capture : ports.Egress ≢ ports.Capture
egress_is_no_capture = λ e. cc

-- where no port was bound, a move binds none
pub bound_moves : (tells : Bool) (port : Port) (held-0 held-1 : Files) (at-0 at-1 at-2 : Port → Shown) → NoneBound tells at-0 at-1 → Moves tells port held-0 held-1 at-1 at-2 → NoneBound tells at-0 at-2
bound_moves tells port held-0 held-1 at-0 at-1 at-2 none moved = record {
  binds = λ p. elim (same_or_other p port) [
    | inl is ↦ subst (λ (q : Port). (at-2 q).binds ≡ (at-1 q).binds) (sym is) moved.same_binds ∙ none.binds p
    | inr other ↦ ap (λ (s : Shown). s.binds) (moved.elsewhere p other) ∙ none.binds p
  ];
  names = λ told p. elim (same_or_other p port) [
    | inl is ↦ subst (λ (q : Port). (at-2 q).name ≡ (at-1 q).name) (sym is) (moved.same_name told) ∙ none.names told p
    | inr other ↦ ap (λ (s : Shown). s.name) (moved.elsewhere p other) ∙ none.names told p
  ];
}

-- where nothing was done, no port was bound
pub bound_none : (tells : Bool) (at : Port → Shown) → NoneBound tells at at
bound_none tells at = record { binds = λ p. refl; names = λ told p. refl }

-- where no write failed, the count is what it was
pub put_spared : (e : WalkFault) (then now : Shown) → IsPutFault (Err e) then now → (e ≡ fault.Write → ⊥) → now.faults ≡ then.faults
put_spared fault.Write then now is other = absurd (other refl)
put_spared fault.OutOfMemory then now is other = is
put_spared fault.Read then now is other = absurd is
put_spared fault.Long then now is other = absurd is
put_spared (fault.Capture r) then now is other = absurd is

-- what the packets came to is what the pieces come to
pub puts_reaches : (path : StaticPath) (input left left' out written : List ℕ) (feed : Kept) (e : WalkFault) → left' ≡ left → NeverReads {T = Unit {0}} (Err e) → Puts path input left out written feed (Err e) → Reaches path input left' out written feed (Err e)
puts_reaches path input left left' out written feed fault.Write is never h = h
puts_reaches path input left left' out written feed fault.OutOfMemory is never h = h
puts_reaches path input left left' out written feed fault.Read is never h = absurd never
puts_reaches path input left left' out written feed fault.Long is never h = absurd never
puts_reaches path input left left' out written feed (fault.Capture r) is never h = (subst (λ (l : List ℕ). State path input l out feed) (sym is) h.0, h.1)

pub put_fault_reaches : (path : StaticPath) (input left out written : List ℕ) (feed : Kept) (e : WalkFault) (then now : _) → IsPutFault (Err e) then now → Fronts path input written → Reaches path input left out written feed (Err e)
put_fault_reaches path input left out written feed fault.Write then now is front = front
put_fault_reaches path input left out written feed fault.OutOfMemory then now is front = front
put_fault_reaches path input left out written feed fault.Read then now is front = absurd is
put_fault_reaches path input left out written feed fault.Long then now is front = absurd is
put_fault_reaches path input left out written feed (fault.Capture r) then now is front = absurd is

pub read_fault_reaches : (path : StaticPath) (input left out written : List ℕ) (feed : Kept) (e : WalkFault) → NeverPuts {T = Option Bool} (Err e) → Fronts path input written → Reaches path input left out written feed (Err e)
read_fault_reaches path input left out written feed fault.Read is front = front
read_fault_reaches path input left out written feed fault.OutOfMemory is front = front
read_fault_reaches path input left out written feed fault.Write is front = absurd is
read_fault_reaches path input left out written feed fault.Long is front = absurd is
read_fault_reaches path input left out written feed (fault.Capture r) is front = absurd is

pub is_none : {T : Type 0} (o : Option T) → o ≡ None → IsNone o
is_none {T = T} o is = subst (λ (x : Option T). IsNone x) (sym is) refl

-- ---- the start and the end

-- nothing is a front of what nothing leaves
pub nothing_written : (path : StaticPath) (input written : List ℕ) → written ≡ [] → Fronts path input written
nothing_written path input written is = record { form = None; frames = []; ends = []; begins = refl; walked = tt; front = ([], append-nil written ∙ is) }

pub start_state : (path : StaticPath) (input out : List ℕ) (feed : Kept) → feed.form ≡ None → Stands feed [] [] → out ≡ [] → State path input input out feed
start_state path input out feed is stands same = record {
  given = [];
  ends = [];
  follows = record { taken = []; joined = refl; stands = stands };
  walked = tt;
  out_is = same ∙ sym (ap (λ (f : Option Form). egress_of f [] []) is);
}

-- what is written where the reading is known
abbrev pub known_writes : (path : StaticPath) (input left out : List ℕ) (feed : Kept) (stop : Option Refusal) (s : State path input left out feed) → Reads input feed.form s.given stop → Writes path.spi path.count input stop out
known_writes path input left out feed stop s reads = record {
  form = feed.form;
  frames = s.given;
  ends = s.ends;
  reads = reads;
  walked = s.walked;
  egress = s.out_is;
}

pub known_end : (path : StaticPath) (input left out : List ℕ) (feed : Kept) (stop : Option Refusal) (s : State path input left out feed) → left ≡ [] → Reads s.follows.taken feed.form s.given stop → Known path input out stop
known_end path input left out feed stop s none reads =
    let whole : s.follows.taken ≡ input = sym (append-nil s.follows.taken) ∙ ap (λ l. s.follows.taken ++ l) (sym none) ∙ s.follows.joined in
    record {
      writes = known_writes path input left out feed stop s (subst (λ (l : List ℕ). Reads l feed.form s.given stop) whole reads);
      begins = begins_frames_in feed.form feed input left s.follows.taken s.given s.follows.joined s.follows.stands;
    }

pub known_refused : (path : StaticPath) (input left out : List ℕ) (feed : Kept) (r : Refusal) (s : State path input left out feed) → RefusedAt feed r → Known path input out (Some r)
known_refused path input left out feed r s at = record {
  writes = known_writes path input left out feed (Some r) s (subst (λ (l : List ℕ). Reads l feed.form s.given (Some r)) s.follows.joined (reads_refused feed s.follows.taken left s.given r s.follows.stands at));
  begins = begins_frames_in feed.form feed input left s.follows.taken s.given s.follows.joined s.follows.stands;
}

-- how a capture ends that is refused
pub finish_bad : (e : CaptureFault) (place : ℕ) (reason : CaptureReason) (bytes : List ℕ) (form : Option Form) (frames : List Captured) → e ≡ ends.Bad place reason → Finishes (Err e) bytes form frames → Reads bytes form frames (Some (told place reason))
finish_bad e place reason bytes form frames is f = subst (λ (x : CaptureFault). Finishes (Err x) bytes form frames) is f

-- all that waited is written
pub written_whole : (path : StaticPath) (input out written : List ℕ) (stop : Option Refusal) → written ≡ out → Known path input out stop → Writes path.spi path.count input stop written
written_whole path input out written stop is k = subst (λ (l : List ℕ). Writes path.spi path.count input stop l) (sym is) k.writes

-- or a front of it
pub written_front : (path : StaticPath) (input out written : List ℕ) (stop : Option Refusal) → IsFront written out → Known path input out stop → Fronts path input written
written_front path input out written stop front k = record {
  form = k.writes.form;
  frames = k.writes.frames;
  ends = k.writes.ends;
  begins = k.begins;
  walked = k.writes.walked;
  front = (front.0, front.1 ∙ k.writes.egress);
}

pub put_fault_ends : (path : StaticPath) (input left written : List ℕ) (e : WalkFault) (then now : _) → IsPutFault (Err e) then now → Fronts path input written → Ends path input left written (Err e)
put_fault_ends path input left written fault.Write then now is front = front
put_fault_ends path input left written fault.OutOfMemory then now is front = front
put_fault_ends path input left written fault.Read then now is front = absurd is
put_fault_ends path input left written fault.Long then now is front = absurd is
put_fault_ends path input left written (fault.Capture r) then now is front = absurd is

-- what is refused has another reason than that it ends short
row_not_short : (form : Option Form) (rest : List ℕ) (row : Refusal) → RefusedIn form rest row → row.reason ≡ reasons.Short → ⊥
row_not_short None rest row (inl a) e = let is = ap (λ (t : Refusal). t.reason) a.is in cc
row_not_short None rest row (inr (inl a)) e = let is = ap (λ (t : Refusal). t.reason) a.is in cc
row_not_short None rest row (inr (inr a)) e = let is = ap (λ (t : Refusal). t.reason) a.is in cc
row_not_short (Some form) rest row (inl a) e = let is = ap (λ (t : Refusal). t.reason) a.is in cc
row_not_short (Some form) rest row (inr a) e = let is = ap (λ (t : Refusal). t.reason) a.is in cc

pub refused_not_short : (feed : Kept) (r : Refusal) (input : List ℕ) → RefusedAt feed r → IsShortWithin r input
refused_not_short feed r input at short =
    absurd (row_not_short feed.form feed.rest at.row at.here (sym (ap (λ (t : Refusal). t.reason) at.told) ∙ short))
