-- Each walk ends where the static path has it end.
use Rattle.std.proofs.Common.{◌∙◌, sym, arith}
use Rattle.static_walks.proofs.WalkEnds.{egress_up_to, spent_above, static_end}
use Rattle.static_walks.proofs.laws.sixty_one_functions_spend_the_ttl.Goals as goal

pub returns : goal.returns
returns c = record {
  leaves = λ spi count frame end some few walk. static_end spi count frame end some (omega (arith, few)) walk ∙ sym (egress_up_to count few);
  spends = λ spi count frame end many few walk. static_end spi count frame end (omega (arith, many)) few walk ∙ sym (spent_above count many);
}
