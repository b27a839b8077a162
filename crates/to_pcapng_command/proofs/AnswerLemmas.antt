-- The answers of `to-pcapng`: what its words say is determined, and its input asks for one answer.
use Rattle.std.proofs.Common.{◌≡◌, List, [], ◌∷◌, ℕ, codes, refl, sym, ap, ◌∙◌}
use Rattle.commands.specs.declared.statuses.Status.{Status}
use Rattle.commands.specs.Outputs.{Outputs}
use Rattle.sfc_desk.specs.declared.ports.Port.TheVariants as ports
use Rattle.frame_streams.specs.Streams.{AnswersOnce}
use Rattle.to_pcapng_command.specs.ToPcapngCommand.{ToPcapng, IsToPcapng, ToPcapngWrites}
use Rattle.to_pcapng_command.proofs.OneFileLemmas.{one_file}

-- words that say these two names
said_with : List ℕ → List ℕ → ToPcapng
said_with capture made = record { capture = capture; made = made }

-- words are those of one command
pub one_said : (words : List (List ℕ)) (a b : ToPcapng) → IsToPcapng words a → IsToPcapng words b → a ≡ b
unfolding said_with
one_said words a b is_a is_b =
    let same : codes "to-pcapng" ∷ a.capture ∷ a.made ∷ [] ≡ codes "to-pcapng" ∷ b.capture ∷ b.made ∷ [] = sym is_a.spelled ∙ is_b.spelled in
    let capture : a.capture ≡ b.capture = cc in
    let made : a.made ≡ b.made = cc in
    ap (λ name. said_with name a.made) capture ∙ ap (λ name. said_with b.capture name) made

-- an input asks for one answer
pub answers_once : AnswersOnce ToPcapngWrites
answers_once = λ input a b out other is_a is_b. (one_file input (out ports.Made) (other ports.Made) a b is_a is_b).0
