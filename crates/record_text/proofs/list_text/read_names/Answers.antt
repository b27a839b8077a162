-- A piece that names no instance is a piece of no list of visits.
use Rattle.std.proofs.Common.{◌∙◌, ◌++◌, ap, sym}
use Rattle.std.specs.Prelude.{map}
use Rattle.std.proofs.lemmas.List.Elements.{recursion_from_All}
use Rattle.record_text.specs.Names.{IsInstance, instance_text}
use Rattle.record_text.proofs.ListLemmas.{value_at}
use Rattle.record_text.proofs.list_text.read_names.Goals as goal

pub returns-in_default-read_instance : goal.returns-in_default-read_instance
returns-in_default-read_instance c = λ v fits e.
    let f = instance_text c.args.roster.now in
    let found = value_at (IsInstance c.args.roster.now) f v.items (map f c.loop-piece.instances.items) c.in-Some.piece.now c.next.new.self
    (recursion_from_All _ v.items fits.1)
    (ap (λ ps. map f c.loop-piece.instances.items ++ ps) (sym c.in-Some.ensures) ∙ c.loop-piece.invariant.cut ∙ e) in
    c.in_default-read_instance.ensures found.0 found.1 found.2
