use Rattle.std.proofs.Common.{◌≡◌, ap, sym, ◌∙◌, length, drop}
use Rattle.nsh_metadata.proofs.EncodingLemmas.{encoded, encoded_behind}
use Rattle.nsh_metadata.proofs.encoding.encode_nsh.Goals as goal

pub returns-clause-spelled : goal.returns-clause-spelled
returns-clause-spelled c =
    let eight : length c.encode_head.result ≡ 8 = sym (ap length c.copy_from_slice.ensures.after) ∙ c.copy_from_slice.ensures.len ∙ c.split_at_mut-front.ensures.front_len in
    rw (c.copy_from_slice.ensures.after, c.copy_from_slice-2.ensures.after, ← c.nsh.view_is)
    (encoded c.encode_head.result c.bytes-context.result.now c.split_at_mut-behind.result.1.now (record { head = c.nsh.inside.head; context = c.nsh.inside.context }) eight c.encode_head.ensures c.nsh.invariant c.bytes-context.ensures.spelled)

pub returns-clause-behind : goal.returns-clause-behind
returns-clause-behind c =
    let eight : length c.encode_head.result ≡ 8 = sym (ap length c.copy_from_slice.ensures.after) ∙ c.copy_from_slice.ensures.len ∙ c.split_at_mut-front.ensures.front_len in
    rw (c.copy_from_slice.ensures.after, c.copy_from_slice-2.ensures.after)
    (encoded_behind c.encode_head.result c.bytes-context.result.now c.split_at_mut-behind.result.1.now c.args.into.now eight (c.split_at_mut-behind.ensures.back ∙ ap (drop (length c.bytes-context.result.now)) c.split_at_mut-front.ensures.back))
