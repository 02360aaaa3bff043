use Rattle.units.proofs.Held.{offer_stays}
use Rattle.units.proofs.unit.GeneratingUnit.close.Goals as goal

pub returns-else-is_none-clause-only_a_missing_offer_is_made : goal.returns-else-is_none-clause-only_a_missing_offer_is_made
returns-else-is_none-clause-only_a_missing_offer_is_made c = offer_stays c.args.self.now c.args.price c.if-is_none.ensures
