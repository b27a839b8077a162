-- The next path goes, joins or stays.
use Rattle.std.proofs.Common.{arith, ◌∙◌}
use Rattle.std.proofs.lemmas.List.{get_or_default}
use Rattle.table_publish.proofs.DifferenceLemmas.{before_rest, goes, joins, stays}
use Rattle.table_publish.proofs.differences.bring_next.Goals as goal

pub overflow_add-result : goal.overflow_add-result
overflow_add-result c = omega (arith, c.in-Goes.ensures.next.0, c.next_of.ensures.long.0)

pub overflow_add-result-in-Joins : goal.overflow_add-result-in-Joins
overflow_add-result-in-Joins c = omega (arith, c.in-Joins.ensures.next.0, c.next_of.ensures.long.1)

pub overflow_add-result-in-Stays : goal.overflow_add-result-in-Stays
overflow_add-result-in-Stays c = omega (arith, c.in-Stays.ensures.next.0, c.next_of.ensures.long.0)

pub overflow_add-result-in-Stays-2 : goal.overflow_add-result-in-Stays-2
overflow_add-result-in-Stays-2 c = omega (arith, c.in-Stays.ensures.next.1, c.next_of.ensures.long.1)

pub replace_path-requires : goal.replace_path-requires
replace_path-requires c =
    let p = c.path-in-Stays.result.now in
    let q = c.path-in-Stays-2.result.now in
    c.in-Stays.ensures.next.2 p q (c.in-Stays.ensures.next.0, c.path-in-Stays.ensures) (c.in-Stays.ensures.next.1, c.path-in-Stays-2.ensures)

pub returns-in_ok-cut_path-in-Goes-clause-on : goal.returns-in_ok-cut_path-in-Goes-clause-on
returns-in_ok-cut_path-in-Goes-clause-on c =
    let p = c.path.result.now in
    rw (c.in_ok-cut_path-in-Goes.ensures) (goes c.args.old.now c.args.new.now c.args.at.gone c.args.at.made c.args.changes.now p c.requires.so_far c.in-Goes.ensures.next.0 (c.path.ensures p))

pub returns-in_ok-put_path-in-Joins-clause-on : goal.returns-in_ok-put_path-in-Joins-clause-on
returns-in_ok-put_path-in-Joins-clause-on c =
    let q = c.path-in-Joins.result.now in
    let old = c.args.old.now in
    let less = before_rest old c.args.at.gone q (λ p at. c.in-Joins.ensures.next.1 at.0 p q (at.0, λ d. at.1 ∙ get_or_default old c.args.at.gone p d at.0) (c.in-Joins.ensures.next.0, c.path-in-Joins.ensures)) in
    rw (c.in_ok-put_path-in-Joins.ensures) (joins old c.args.new.now c.args.at.gone c.args.at.made c.args.changes.now q c.requires.so_far c.next_of.ensures.kept c.in-Joins.ensures.next.0 (c.path-in-Joins.ensures q) less)

pub returns-in_ok-replace_path-in-Stays-clause-on : goal.returns-in_ok-replace_path-in-Stays-clause-on
returns-in_ok-replace_path-in-Stays-clause-on c =
    let p = c.path-in-Stays.result.now in
    let q = c.path-in-Stays-2.result.now in
    let same = c.in-Stays.ensures.next.2 p q (c.in-Stays.ensures.next.0, c.path-in-Stays.ensures) (c.in-Stays.ensures.next.1, c.path-in-Stays-2.ensures) in
    stays c.args.old.now c.args.new.now c.args.at.gone c.args.at.made c.args.changes.now c.replace_path.new.changes p q c.requires.so_far c.next_of.ensures.kept
    c.in-Stays.ensures.next.0 c.in-Stays.ensures.next.1 (c.path-in-Stays.ensures p) (c.path-in-Stays-2.ensures q) same c.in_ok-replace_path-in-Stays.ensures
