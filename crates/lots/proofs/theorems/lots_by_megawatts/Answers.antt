use Rattle.lots.proofs.Runs.{lots-run}
use Rattle.lots.proofs.Prices.{costs_are_prices}
use Rattle.lots.proofs.theorems.lots_by_megawatts.Goals as goal

pub returns : goal.returns
returns c = record { lots_are_runs_of_megawatts = lots-run; costs_are_the_prices_of_the_megawatts = costs_are_prices }
