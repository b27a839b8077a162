-- One attribute more fits behind those before, or what it is refused for is told at its place.
use Rattle.std.proofs.Common.{◌≡◌, ◌++◌, length, ap, sym, subst, List, ◌∷◌, [], arith}
use Rattle.std.proofs.lemmas.List.{length-append}
use Rattle.std.proofs.lemmas.Result.{err_from_is_err_and}
use Rattle.bgp_update.specs.declared.attributes.Attribute.{Attribute}
use Rattle.bgp_update.specs.Attributes.{attributes_bytes}
use Rattle.bgp_update.specs.Updates.{AttributesFit}
use Rattle.bgp_update.specs.Refusals.{Repeats}
use Rattle.bgp_update.proofs.AttributeLemmas.{value_ends, step, refused_one}
use Rattle.bgp_update.proofs.decoding.read_attributes.Goals as goal

pub read_body-requires : goal.read_body-requires
read_body-requires c =
    let rest = c.loop-rest.rest.now in
    let piece = c.in-Some.piece in
    omega (
      arith,
      c.requires,
      value_ends rest piece.flags piece.kind piece.value.now piece.rest.now c.in-Some.ensures,
      ap length c.loop-rest.invariant.0,
      length-append (attributes_bytes c.loop-rest.attributes) rest,
    )

pub returns-in_err-body : goal.returns-in_err-body
returns-in_err-body c =
    let p = err_from_is_err_and c.from_residual.result c.from_residual.ensures.1 in
    let piece = c.in-Some.piece in
    let first : ¬ Repeats piece.kind c.loop-rest.attributes = subst (λ (l : List Attribute). ¬ Repeats piece.kind l) c.as_slice.ensures c.if-repeats.ensures in
    rw (p.1, p.2) (refused_one c.args.start c.args.bytes.now c.loop-rest.attributes c.loop-rest.rest.now piece.flags piece.kind piece.value.now piece.rest.now _
    c.loop-rest.invariant.0 c.loop-rest.invariant.1 c.in-Some.ensures first c.in_err-body.ensures)

pub loop-rest-preserved : goal.loop-rest-preserved
loop-rest-preserved c =
    let piece = c.in-Some.piece in
    let a : Attribute = record { flags = piece.flags; kind = piece.kind; body = c.in_ok-body.body } in
    let first : ¬ Repeats piece.kind c.loop-rest.attributes = subst (λ (l : List Attribute). ¬ Repeats piece.kind l) c.as_slice.ensures c.if-repeats.ensures in
    let pushed : c.push.new.self ≡ c.loop-rest.attributes ++ a ∷ [] = c.in_ok-push.ensures.ok in
    subst (λ (l : List Attribute). (c.args.bytes.now ≡ attributes_bytes l ++ piece.rest.now) × AttributesFit l) (sym pushed)
    (step c.args.bytes.now c.loop-rest.attributes c.loop-rest.rest.now a piece.value.now piece.rest.now (λ i. omega (arith, c.type_inv.bytes i))
    c.loop-rest.invariant.0 c.loop-rest.invariant.1 c.in-Some.ensures first c.in_ok-body.ensures)
