-- What is answered is all that the text can be read as.
use Rattle.route_texts.proofs.ExactLemmas.{exact_routes, exact_refusal}
use Rattle.route_texts.proofs.laws.parsing_is_exact.Goals as goal

pub returns-clause-routes : goal.returns-clause-routes
returns-clause-routes c = exact_routes

pub returns-clause-refusal : goal.returns-clause-refusal
returns-clause-refusal c = exact_refusal
