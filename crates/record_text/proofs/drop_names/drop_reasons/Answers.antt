-- Each row is taken behind those before it.
use Rattle.std.proofs.Common.{refl}
use Rattle.record_text.proofs.DropReasonLemmas.{added}
use Rattle.record_text.proofs.drop_names.drop_reasons.Goals as goal

pub returns : goal.returns
returns c =
    let row1 = added _ _ _ _ _ _ c.add.ensures.taken c.add.ensures.rows c.new-table.ensures refl in
    let row2 = added _ _ _ _ _ _ c.add-2.ensures.taken c.add-2.ensures.rows row1 refl in
    let row3 = added _ _ _ _ _ _ c.add-3.ensures.taken c.add-3.ensures.rows row2 refl in
    let row4 = added _ _ _ _ _ _ c.add-4.ensures.taken c.add-4.ensures.rows row3 refl in
    let row5 = added _ _ _ _ _ _ c.add-5.ensures.taken c.add-5.ensures.rows row4 refl in
    let row6 = added _ _ _ _ _ _ c.add-6.ensures.taken c.add-6.ensures.rows row5 refl in
    let row7 = added _ _ _ _ _ _ c.add-7.ensures.taken c.add-7.ensures.rows row6 refl in
    let row8 = added _ _ _ _ _ _ c.add-8.ensures.taken c.add-8.ensures.rows row7 refl in
    let row9 = added _ _ _ _ _ _ c.add-9.ensures.taken c.add-9.ensures.rows row8 refl in
    added _ _ _ _ _ _ c.add-10.ensures.taken c.add-10.ensures.rows row9 refl
