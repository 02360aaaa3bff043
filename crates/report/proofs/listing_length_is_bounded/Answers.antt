use Rattle.report.proofs.Longest.{listing_bounded}
use Rattle.report.proofs.listing_length_is_bounded.Goals as goal

pub returns : goal.returns
returns c = record { a_listing_takes_at_most_51_bytes_and_47_for_each_row = listing_bounded }
