-- The next block with a frame is whole, refused, or not there; the file header of the capture is put before.
use Rattle.std.proofs.Common.{◌≡◌, ◌++◌, ◌+◌, ℕ, List, [], ◌∷◌, false, length, MatchBool, sym, ◌∙◌, subst, arith}
use Rattle.pcapng_io.specs.declared.frames.NgFrame.{NgFrame}
use Rattle.pcapng_io.specs.declared.faults.NgRefusal.{NgRefusal}
use Rattle.pcapng_io.specs.Calls.{IsHeld, RefusedAt, lent_frame}
use Rattle.pcapng_io.specs.Kept.{Kept}
use Rattle.pcapng_io.specs.Reads.{BeginsNg}
use Rattle.pcapng_io.specs.Refusals.{told}
use Rattle.pcapng_io.specs.Streams.{Stands}
use Rattle.from_pcapng_command.specs.FromPcapngSteps.{PutsFrame}
use Rattle.from_pcapng_command.proofs.MakerLemmas.{few_says, frame_next, frame_says, head_says, refuses, rest_is, rest_next}
use Rattle.from_pcapng_command.proofs.capture_makers.CaptureMakerConverter.next.Goals as goal

pub put_lent-requires-clause-few : goal.put_lent-requires-clause-few
put_lent-requires-clause-few c =
    let old = c.args.self.now in
    let feed = c.next_frame.new.self in
    let t = c.requires.2 in
    let small = t.small in
    let count = c.in-Ok-Some.ensures.count in
    let few = few_says old feed (lent_frame c.in-Ok-Some.head feed) c.requires.0 c.requires.1 t (rw c.in-Ok-Some.field-0-is at (c.in-Ok-Some.ensures.history c.requires.0 t.given t.stands)) (omega (arith, small, count)) in
    let chosen = c.in-Ok.ensures.chosen in
    let skipped = c.in-Ok.ensures.skipped in
    omega (arith, few, chosen, skipped)

pub returns-in-Ok-put_lent-clause-history : goal.returns-in-Ok-put_lent-clause-history
returns-in-Ok-put_lent-clause-history c = λ taken written t.
    let old = c.args.self.now in
    let feed = c.next_frame.new.self in
    let mid = c.begin.new.self in
    let new = c.put_lent.new.self in
    let frame = lent_frame c.in-Ok-Some.head feed in
    frame_next old new taken (written ++ c.put_lent.new.buffer.items) (c.in-Ok-put_lent.ensures.interface ∙ c.in-Ok.ensures.interface)
    (frame_says old mid new frame taken written c.args.buffer.now.items c.begin.new.buffer.items c.put_lent.new.buffer.items c.in-Ok.ensures.interface (c.in-Ok-put_lent.ensures.interface ∙ c.in-Ok.ensures.interface) c.in-Ok-put_lent.ensures.begun c.in-Ok-put_lent.ensures.feed c.in-Ok.ensures.chosen c.in-Ok.ensures.skipped
    c.in-Ok.ensures.puts (λ given s. c.in-Ok.ensures.begins taken given (subst (λ (k : Kept). Stands k taken given) c.in-Ok.ensures.feed s))
    (subst (λ (k : Kept). PutsFrame mid.interface (lent_frame c.in-Ok-Some.head k) mid new c.begin.new.buffer.items c.put_lent.new.buffer.items) c.in-Ok.ensures.feed c.in-Ok-put_lent.ensures.puts)
    (λ given s. subst (λ (k : Kept). Stands k taken (given ++ frame ∷ [])) (sym c.in-Ok.ensures.feed) (rw c.in-Ok-Some.field-0-is at (c.in-Ok-Some.ensures.history taken given s)))
    (subst (λ (k : Kept). k.place + length k.rest ≡ old.feed.place + length old.feed.rest) (sym c.in-Ok.ensures.feed) c.in-Ok-Some.ensures.count) t)

pub returns-in-Ok-begin-clause-history : goal.returns-in-Ok-begin-clause-history
returns-in-Ok-begin-clause-history c = λ taken written t.
    let old = c.args.self.now in
    let feed = c.next_frame.new.self in
    let mid = c.begin-in-Ok-None.new.self in
    let is = c.in-Ok-begin.ensures.feed in
    let next : (given : List NgFrame) → Stands old.feed taken given → Stands feed taken given × IsHeld feed = λ given s. rw c.in-Ok-None.field-0-is at (c.in-Ok-None.ensures.history taken given s) in
    let begins : (bytes : List ℕ) (given : List NgFrame) → Stands mid.feed bytes given → old.begun ≡ false → MatchBool mid.begun (BeginsNg bytes) (¬ BeginsNg bytes) = λ bytes given s. c.in-Ok-begin.ensures.begins bytes given (subst (λ (k : Kept). Stands k bytes given) is s) in
    rest_next old mid taken (written ++ c.begin-in-Ok-None.new.buffer.items) c.in-Ok-begin.ensures.interface
    (head_says old mid taken written c.args.buffer.now.items c.begin-in-Ok-None.new.buffer.items c.in-Ok-begin.ensures.interface c.in-Ok-begin.ensures.chosen c.in-Ok-begin.ensures.skipped c.in-Ok-begin.ensures.puts (begins taken)
    (λ given s. subst (λ (k : Kept). Stands k taken given) (sym is) (next given s).0)
    (subst (λ (k : Kept). k.place + length k.rest ≡ old.feed.place + length old.feed.rest) (sym is) c.in-Ok-None.ensures.count) t)
    (rest_is old mid c.args.buffer.now.items c.begin-in-Ok-None.new.buffer.items c.in-Ok-begin.ensures.puts begins (subst IsHeld (sym is) (next t.given t.stands).1))

pub returns-in-Ok-begin-2-clause-history : goal.returns-in-Ok-begin-2-clause-history
returns-in-Ok-begin-2-clause-history c = λ taken written t.
    let old = c.args.self.now in
    let feed = c.next_frame.new.self in
    let mid = c.begin-in-Err-Bad.new.self in
    let is = c.in-Ok-begin-2.ensures.feed in
    let r : NgRefusal = told c.in-Err-Bad.place c.in-Err-Bad.reason in
    let next : (given : List NgFrame) → Stands old.feed taken given → Stands feed taken given × RefusedAt feed r = λ given s. rw c.in-Err-Bad.field-0-is at (c.in-Err-Bad.ensures.history taken given s) in
    let begins : (given : List NgFrame) → Stands mid.feed taken given → old.begun ≡ false → MatchBool mid.begun (BeginsNg taken) (¬ BeginsNg taken) = λ given s. c.in-Ok-begin-2.ensures.begins taken given (subst (λ (k : Kept). Stands k taken given) is s) in
    refuses old mid taken written c.args.buffer.now.items c.begin-in-Err-Bad.new.buffer.items r c.in-Ok-begin-2.ensures.interface
    (head_says old mid taken written c.args.buffer.now.items c.begin-in-Err-Bad.new.buffer.items c.in-Ok-begin-2.ensures.interface c.in-Ok-begin-2.ensures.chosen c.in-Ok-begin-2.ensures.skipped c.in-Ok-begin-2.ensures.puts begins
    (λ given s. subst (λ (k : Kept). Stands k taken given) (sym is) (next given s).0)
    (subst (λ (k : Kept). k.place + length k.rest ≡ old.feed.place + length old.feed.rest) (sym is) c.in-Err-Bad.ensures.count) t)
    c.in-Ok-begin-2.ensures.puts begins (subst (λ (k : Kept). RefusedAt k r) (sym is) (next t.given t.stands).1)
