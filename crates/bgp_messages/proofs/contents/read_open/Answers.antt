-- The fields that were read are those of the content's cells.
use Rattle.std.proofs.Common.{◌≡◌, ◌<◌, length, get_or, take, drop, sym, ap, ◌∙◌, inl, inr, arith}
use Rattle.std.proofs.lemmas.List.{take_rest, get_or-drop}
use Rattle.wire_base.specs.Numbers.{big_endian}
use Rattle.bgp_messages.specs.Opens.{parameters_bytes}
use Rattle.bgp_messages.specs.Refusals.{BadHold}
use Rattle.bgp_messages.proofs.ContentLemmas.{FieldsAre, open_spelled}
use Rattle.bgp_messages.proofs.contents.read_open.Goals as goal

pub returns : goal.returns
returns c =
    let b = c.args.content.now in
    let params : drop 10 b ≡ parameters_bytes c.in_ok-params.params = sym (take_rest b 10) ∙ c.in_ok-params.ensures in
    let size : get_or b 9 0 ≡ length (drop 10 b) = sym c.from.ensures ∙ c.if-from-params.false ∙ ap length (take_rest b 10) in
    let small : get_or b 9 0 < 256 = omega (arith, c.type_inv.content 9) in
    let id : c.be_u32-id.result ≡ big_endian (take 4 (drop 5 b)) = rw take_rest at c.be_u32-id.ensures.number in
    let fields : FieldsAre b (record { my_as = c.be_u16-my_as.result; hold = c.be_u16-hold.result; id = c.be_u32-id.result; params = c.in_ok-params.params }) = record {
      there = c.requires;
      version = c.if-content-ne-VERSION.false;
      my_as = simp (take_rest, get_or-drop) at c.be_u16-my_as.ensures.cells;
      hold = simp (take_rest, get_or-drop) at c.be_u16-hold.ensures.cells;
      id = id;
      size = size;
      params = params;
    } in
    let acceptable : ¬ BadHold c.be_u16-hold.result = c.if-not-is_acceptable.ensures in
    record {
      spelled = open_spelled b _ (record { each = λ i. omega (arith, c.type_inv.content i) }) fields;
      fits = record {
        my_as = c.be_u16-my_as.type_inv;
        hold = c.be_u16-hold.type_inv;
        not_one = λ one. acceptable (inl one);
        not_two = λ other. acceptable (inr other);
        id = c.be_u32-id.type_inv;
        some_id = omega arith;
        size = omega (arith, ap length params, size, small);
      };
    }
