-- The lines of a stream of BGP messages that comes in pieces: what they stand for.
use Rattle.std.specs.Prelude.{◌≡◌, ℕ, List, [], ◌++◌}
use Rattle.bgp_messages.specs.Refusals.{Held}
use Rattle.sfc_texts.specs.declared.stream_texts.Stage.{Stage}
use Rattle.sfc_texts.specs.declared.stream_texts.Stage.TheVariants as stages
use Rattle.sfc_texts.specs.BgpText.{ShowsFrom, ShowsBgp}

-- the bytes that no line shows yet, how many bytes were before them, and how far the lines are
pub record Showing : Type 0 where
  pub rest : List ℕ
  pub place : ℕ
  pub stage : Stage

-- the text shows what is left of the stream where these bytes are still to come: behind a refusal nothing follows, whatever comes
abbrev pub ShowsLeft : Stage → ℕ → List ℕ → List ℕ → Type 0
ShowsLeft stages.Open place left text = ShowsFrom place left text
ShowsLeft stages.Over place left text = text ≡ []
ShowsLeft stages.Failed place left text = ⊥

abbrev pub StillShows : Showing → List ℕ → List ℕ → Type 0
StillShows lines left text = ShowsLeft lines.stage lines.place (lines.rest ++ left) text

-- These bytes of a stream were taken, and these lines given. Whatever is still to come, what shows the rest shows the whole
-- stream behind these lines, and every text of the whole stream begins with them.
pub record Stands (lines : Showing) (taken out : List ℕ) : Type 0 where
  pub leads : (left later : List ℕ) → StillShows lines left later → ShowsBgp (taken ++ left) (out ++ later)
  pub only : (left text : List ℕ) → ShowsBgp (taken ++ left) text → (later : List ℕ) × (text ≡ out ++ later) × StillShows lines left later

-- nothing can be shown yet: the rest is no whole message and is not refused, or a refusal was shown
abbrev pub AwaitsAt : Stage → List ℕ → Type 0
AwaitsAt stages.Open rest = Held rest
AwaitsAt stages.Over rest = Unit {0}
AwaitsAt stages.Failed rest = ⊥

abbrev pub Awaits : Showing → Type 0
Awaits lines = AwaitsAt lines.stage lines.rest
