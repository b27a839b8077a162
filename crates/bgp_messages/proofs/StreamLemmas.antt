-- What a feed stands for after each call.
use Rattle.std.proofs.Common.{◌≡◌, ℕ, ◌+◌, List, [], ◌∷◌, ◌++◌, length, Option, None, Some, Result, Ok, Err, sym, ap, subst, ◌∙◌, append_assoc}
use Rattle.std.specs.List.{flat_map, AllByRecursion}
use Rattle.std.proofs.lemmas.List.{append-nil, length-append}
use Rattle.std.proofs.lemmas.List.Concat.{flat_map-append}
use Rattle.bgp_messages.specs.declared.messages.Message.{Message}
use Rattle.bgp_messages.specs.declared.refusals.Refusal.{Refusal}
use Rattle.bgp_messages.specs.declared.feeds.NextFault.{NextFault}
use Rattle.bgp_messages.specs.declared.feeds.NextFault.TheVariants as faults
use Rattle.bgp_messages.specs.Messages.{spelling, Fits, Cuts, BeginsNone}
use Rattle.bgp_messages.specs.Refusals.{Told, told_in, moved, Refused, Held}
use Rattle.bgp_messages.specs.Kept.{Kept, Stop, refused, failed}
use Rattle.bgp_messages.specs.Calls.{RefusedAt, Gives, Refuses, First, Answers, GivesThe, SaysNotYet, Tells, Exact}
use Rattle.bgp_messages.specs.Streams.{StopStands, Stands, IsBad, Next}
use Rattle.bgp_messages.proofs.MessageReadings.{one_message, never_both, one_refusal}

-- a feed with the same rest and the same place is refused as the first is
same_refused : (old new : Kept) (t : Told) → new.rest ≡ old.rest → new.place ≡ old.place → RefusedAt old t → RefusedAt new t
same_refused old new t rest place at =
    record { row = at.row; here = subst (λ (r : List ℕ). Refused r at.row) (sym rest) at.here; told = at.told ∙ ap (λ (p : ℕ). moved p at.row) (sym place) }

more_fits : (ms : List Message) (m : Message) → AllByRecursion Fits ms → Fits m → AllByRecursion Fits (ms ++ m ∷ [])
more_fits [] m each one = (one, tt)
more_fits (x ∷ ms) m each one = (each.0, more_fits ms m each.1 one)

one_more : (ms : List Message) (m : Message) → flat_map spelling (ms ++ m ∷ []) ≡ flat_map spelling ms ++ spelling m
one_more ms m = flat_map-append spelling ms (m ∷ []) ∙ ap (λ (b : List ℕ). flat_map spelling ms ++ b) (append-nil (spelling m))

pub gave : (old new : Kept) (taken : List ℕ) (given : List Message) (m : Message) → Stands old taken given → Gives old new m → Stands new taken (given ++ m ∷ [])
gave old new taken given m s g = record {
  joined = s.joined ∙ ap (λ (b : List ℕ). flat_map spelling given ++ b) g.rest ∙ sym (append_assoc (flat_map spelling given) (spelling m) new.rest) ∙ ap (λ (b : List ℕ). b ++ new.rest) (sym (one_more given m));
  each = more_fits given m s.each g.fits;
  used = g.place ∙ ap (λ (n : ℕ). n + length (spelling m)) s.used ∙ sym (length-append (flat_map spelling given) (spelling m)) ∙ ap length (sym (one_more given m));
  stopped = subst (λ (o : Option Stop). StopStands new o) (sym g.goes_on) tt;
}

-- a feed that stands for a stream and whose rest begins no message cuts it
cut_here : (feed : Kept) (taken : List ℕ) (given : List Message) → Stands feed taken given → BeginsNone feed.rest → Cuts taken given feed.rest
cut_here feed taken given s none = record { joined = s.joined; each = s.each; ended = none }

bad_here : (feed : Kept) (taken : List ℕ) (given : List Message) (r : Refusal) → Stands feed taken given → RefusedAt feed (told_in r) → IsBad feed taken given r
bad_here feed taken given r s at = record { stands = s; cut = cut_here feed taken given s (never_both feed.rest at.row at.here); here = at }

pub refused_now : (old new : Kept) (taken : List ℕ) (given : List Message) (r : Refusal) → Stands old taken given → Refuses old new r → IsBad new taken given r
refused_now old new taken given r s e =
    let at : RefusedAt new (told_in r) = same_refused old new (told_in r) e.same_rest e.same_place e.here in
    let stands : Stands new taken given = record {
      joined = s.joined ∙ ap (λ (b : List ℕ). flat_map spelling given ++ b) (sym e.same_rest);
      each = s.each;
      used = e.same_place ∙ s.used;
      stopped = subst (λ (o : Option Stop). StopStands new o) (sym e.stopped) at;
    } in
    bad_here new taken given r stands at

-- a feed that has stopped answers as before
pub answered_again : (feed : Kept) (taken : List ℕ) (given : List Message) (stop : Stop) (fault : NextFault) → feed.stop ≡ Some stop → Stands feed taken given → Answers stop fault → Next (Err fault) feed taken given
answered_again feed taken given (refused t) (faults.Bad r) is s a =
    bad_here feed taken given r s (subst (λ (u : Told). RefusedAt feed u) (sym a) (subst (λ (o : Option Stop). StopStands feed o) is s.stopped))
answered_again feed taken given (refused t) faults.OutOfMemory is s a = absurd a
answered_again feed taken given failed fault is s a = absurd (subst (λ (o : Option Stop). StopStands feed o) is s.stopped)

-- ---- the answer that the rest asks for

message_asked : (old new : Kept) (result : Result (Option Message) NextFault) → First old new result → (m : Message) (more : List ℕ) → Fits m → old.rest ≡ spelling m ++ more → GivesThe m result
message_asked old new (Ok (Some given)) g m more fits e =
    let one = one_message given m new.rest more g.fits fits (sym g.rest ∙ e) in
    one.0
message_asked old new (Ok None) w m more fits e = w.held.unfinished m more fits e
message_asked old new (Err (faults.Bad r)) row m more fits e = never_both old.rest row.here.row row.here.here m more fits e
message_asked old new (Err faults.OutOfMemory) f m more fits e = tt

not_yet_asked : (old new : Kept) (result : Result (Option Message) NextFault) → First old new result → Held old.rest → SaysNotYet result
not_yet_asked old new (Ok (Some given)) g held = held.unfinished given new.rest g.fits g.rest
not_yet_asked old new (Ok None) w held = tt
not_yet_asked old new (Err (faults.Bad r)) row held = held.accepted row.here.row row.here.here
not_yet_asked old new (Err faults.OutOfMemory) f held = tt

bad_asked : (old new : Kept) (result : Result (Option Message) NextFault) → First old new result → (t : Told) → Refused old.rest t → Tells (moved old.place t) result
bad_asked old new (Ok (Some given)) g t here = never_both old.rest t here given new.rest g.fits g.rest
bad_asked old new (Ok None) w t here = w.held.accepted t here
bad_asked old new (Err (faults.Bad r)) row t here =
    row.here.told ∙ ap (λ (u : Told). moved old.place u) (one_refusal old.rest row.here.row t row.here.here here)
bad_asked old new (Err faults.OutOfMemory) f t here = tt

pub exact_from_first : (old new : Kept) (result : Result (Option Message) NextFault) → First old new result → Exact old result
exact_from_first old new result f = record {
  message = message_asked old new result f;
  not_yet = not_yet_asked old new result f;
  bad = bad_asked old new result f;
}
