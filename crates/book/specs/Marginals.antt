-- A marginal price as the ledger gives it.
use Rattle.std.specs.Prelude.{ℕ, Some, None, Ok, Err, Option, Result}
use Rattle.units.specs.declared.refusal.Refusal.{Refusal}
use Rattle.units.specs.Refusals.{number_of}
use Rattle.ledger.specs.Marginal.{Marginal, highest_is, lowest_is, both_are}
use Rattle.book.specs.declared.marginal.MarginalPrice.{MarginalPrice}
use Rattle.book.specs.declared.marginal.MarginalPrice.TheVariants.{Up, Down, Band}

-- the prices of an answer as the ledger gives them
abbrev pub marginal_of : MarginalPrice → Marginal
marginal_of (Up h) = highest_is h
marginal_of (Down p) = lowest_is p
marginal_of (Band h p) = both_are h p

abbrev pub marginal_or_none : Option MarginalPrice → Option Marginal
marginal_or_none None = None
marginal_or_none (Some p) = Some (marginal_of p)

-- the prices of an answer, none, or the number of its refusal
abbrev pub marginal_answer : Result (Option MarginalPrice) Refusal → Result (Option Marginal) ℕ
marginal_answer (Ok p) = Ok (marginal_or_none p)
marginal_answer (Err e) = Err (number_of e)
