-- The answer for the frame that was lent, as one for the frame that is given.
use Rattle.std.proofs.Common.{◌≡◌, None, Some, Result, Ok, Err, Option, refl, ap, ◌∙◌}
use Rattle.pcap_io.specs.declared.frames.Captured.{Captured}
use Rattle.pcap_io.specs.declared.frames.PacketHead.{PacketHead}
use Rattle.pcap_io.specs.declared.reasons.Refusal.{Refusal}
use Rattle.pcap_io.specs.declared.reasons.CaptureFault.TheVariants as faults
use Rattle.pcap_io.specs.Kept.{Kept}
use Rattle.pcap_io.specs.Calls.{Exact, ExactOwn, lent_frame, Lends, Refuses, GivesOwn, RefusesOwn}
use Rattle.pcap_io.proofs.ExactLemmas.{exact_map}
use Rattle.pcap_io.proofs.feeds.CaptureFeed.next.Goals as goal

gives_own : (old new : Kept) (head : PacketHead) (frame : Captured) → frame ≡ lent_frame head new → Exact old new (Ok (Some head)) → ExactOwn old (Ok (Some frame))
gives_own old new head frame is e =
    exact_map (Lends new (Ok (Some head))) (GivesOwn (Ok (Some frame))) ⊥ ⊥ (Refuses (Ok (Some head))) (RefusesOwn (Ok (Some frame)))
    (λ f same. is ∙ same) (λ n. n) (λ t r. r) old.form old.rest old.place e

loses_own : (old new : Kept) (head : PacketHead) → Exact old new (Ok (Some head)) → ExactOwn old (Err faults.OutOfMemory)
loses_own old new head e =
    exact_map (Lends new (Ok (Some head))) (GivesOwn (Err faults.OutOfMemory)) ⊥ ⊥ (Refuses (Ok (Some head))) (RefusesOwn (Err faults.OutOfMemory))
    (λ f same. tt) (λ n. n) (λ t r. r) old.form old.rest old.place e

waits_own : (old new : Kept) → Exact old new (Ok None) → ExactOwn old (Ok None)
waits_own old new e =
    exact_map (Lends new (Ok None)) (GivesOwn (Ok None)) (Unit {0}) (Unit {0}) (Refuses (Ok None)) (RefusesOwn (Ok None))
    (λ f never. never) (λ n. n) (λ t r. r) old.form old.rest old.place e

refuses_own : (old new : Kept) (r : Refusal) → Exact old new (Err r) → ExactOwn old (Err (faults.Bad r.place r.reason))
refuses_own old new r e =
    exact_map (Lends new (Err r)) (GivesOwn (Err (faults.Bad r.place r.reason))) ⊥ ⊥ (Refuses (Err r)) (RefusesOwn (Err (faults.Bad r.place r.reason)))
    (λ f never. never) (λ n. n) (λ t same. same) old.form old.rest old.place e

same_told : (result : Result (Option PacketHead) Refusal) (r t : Refusal) → result ≡ Err r → result ≡ Err t → r ≡ t
same_told result r t e e' = cc

pub returns-in-Ok-clause-exact : goal.returns-in-Ok-clause-exact
returns-in-Ok-clause-exact c = λ _.
    let lent : Exact c.args.self.now c.next_packet.new.self (Ok (Some c.in-Ok-Some.head)) = rw c.in-Ok-Some.field-0-is at c.in-Ok-Some.ensures.exact in
    gives_own c.args.self.now c.next_packet.new.self c.in-Ok-Some.head c.in-Ok.frame (search (c.in-Ok.ensures, c.packet.ensures)) lent

pub returns-in-Err-own_frame-clause-exact : goal.returns-in-Err-own_frame-clause-exact
returns-in-Err-own_frame-clause-exact c = λ _.
    let lent : Exact c.args.self.now c.next_packet.new.self (Ok (Some c.in-Ok-Some.head)) = rw c.in-Ok-Some.field-0-is at c.in-Ok-Some.ensures.exact in
    loses_own c.args.self.now c.next_packet.new.self c.in-Ok-Some.head lent

pub returns-in-Ok-None-clause-exact : goal.returns-in-Ok-None-clause-exact
returns-in-Ok-None-clause-exact c = λ _.
    let lent : Exact c.args.self.now c.next_packet.new.self (Ok None) = rw c.in-Ok-None.field-0-is at c.in-Ok-None.ensures.exact in
    waits_own c.args.self.now c.next_packet.new.self lent

pub returns-in-Err-clause-exact : goal.returns-in-Err-clause-exact
returns-in-Err-clause-exact c = λ _. refuses_own c.args.self.now c.next_packet.new.self c.in-Err.refusal c.in-Err.ensures.exact

pub returns-in-Err-clause-again : goal.returns-in-Err-clause-again
returns-in-Err-clause-again c = λ t _ told.
    ap (λ (r : Refusal). Err (faults.Bad r.place r.reason)) (same_told (Err c.in-Err.refusal) c.in-Err.refusal t refl (c.in-Err.ensures.again t told))
