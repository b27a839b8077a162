-- Each input has one output that is written for it: walks end, and they end in one way.
use Rattle.std.proofs.Common.{◌≡◌, ℕ, ◌≤◌, List, [], ◌∷◌, Option, refl, sym, ap, ◌∙◌, subst}
use Rattle.pcap_io.specs.declared.forms.Form.{Form}
use Rattle.pcap_io.specs.declared.frames.Captured.{Captured}
use Rattle.pcap_io.specs.declared.reasons.Refusal.{Refusal}
use Rattle.pcap_io.specs.Reads.{Reads}
use Rattle.pcap_io.specs.Egress.{egress_of}
use Rattle.pcap_io.proofs.OneReading.{one_reading}
use Rattle.record_text.specs.declared.records.End.{End}
use Rattle.forwarder.specs.Workspaces.{taken_in}
use Rattle.static_walks.proofs.WalkEnds.{one_end, some_end}
use Rattle.walk_command.specs.WalkCommand.{WalksOf, Writes, leaving_of}

-- ---- walks end

-- the walks of frames end
walks_end : (spi count : ℕ) (frames : List Captured) → count ≤ 255 → (ends : List End) × WalksOf spi count frames ends
walks_end spi count [] few = ([], tt)
walks_end spi count (frame ∷ frames) few =
    let own = some_end spi count (taken_in frame.bytes frame.original) few in
    let rest = walks_end spi count frames few in
    (own.0 ∷ rest.0, (own.1, rest.1))

-- what is read is written
pub written_for : (spi count : ℕ) (input : List ℕ) → count ≤ 255 → (form : Option Form) × (frames : List Captured) × (stop : Option Refusal) × Reads input form frames stop → (stop : Option Refusal) × (output : List ℕ) × Writes spi count input stop output
written_for spi count input few read =
    let walks = walks_end spi count read.1 few in
    (read.2, egress_of read.0 read.1 (leaving_of read.1 walks.0), record { form = read.0; frames = read.1; ends = walks.0; reads = read.3; walked = walks.1; egress = refl })

-- ---- in one way

same_ends : (spi count : ℕ) (frames : List Captured) (ends others : List End) → 1 ≤ count → count ≤ 255 → WalksOf spi count frames ends → WalksOf spi count frames others → ends ≡ others
same_ends spi count [] [] [] some few walked walked' = refl
same_ends spi count [] [] (o ∷ os) some few walked walked' = absurd walked'
same_ends spi count [] (e ∷ es) others some few walked walked' = absurd walked
same_ends spi count (f ∷ fs) [] others some few walked walked' = absurd walked
same_ends spi count (f ∷ fs) (e ∷ es) [] some few walked walked' = absurd walked'
same_ends spi count (f ∷ fs) (e ∷ es) (o ∷ os) some few walked walked' =
    ap (λ (x : End). x ∷ es) (one_end spi count (taken_in f.bytes f.original) e o some few walked.0 walked'.0)
    ∙ ap (λ (xs : List End). o ∷ xs) (same_ends spi count fs es os some few walked.1 walked'.1)

-- what is written for an input, and where it is refused
pub one_output : (spi count : ℕ) (input a b : List ℕ) (stop halt : Option Refusal) → 1 ≤ count → count ≤ 255 → Writes spi count input stop a → Writes spi count input halt b → (a ≡ b) × (stop ≡ halt)
one_output spi count input a b stop halt some few w v =
    let read = one_reading input w.form v.form w.frames v.frames stop halt w.reads v.reads in
    let walked : WalksOf spi count w.frames v.ends = subst (λ (l : List Captured). WalksOf spi count l v.ends) (sym read.1) v.walked in
    let ends = same_ends spi count w.frames w.ends v.ends some few w.walked walked in (
      w.egress
          ∙ (ap (λ (l : List End). egress_of w.form w.frames (leaving_of w.frames l)) ends
          ∙ (ap (λ (l : List Captured). egress_of w.form l (leaving_of l v.ends)) read.1
          ∙ (ap (λ (f : Option Form). egress_of f v.frames (leaving_of v.frames v.ends)) read.0
          ∙ sym v.egress))),
      read.2,
    )
