-- from the ground up: the first bits of bytes, the rule at a place, one verdict
mod BitLemmas
mod RuleLemmas
mod VerdictLemmas
