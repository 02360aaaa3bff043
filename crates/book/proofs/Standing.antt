-- What a book's invariant gives of its tables.
use Rattle.std.proofs.Common.{◌≡◌, ℕ, ◌*◌, ◌<◌, ◌≤◌, List, [], ◌∷◌, length, get_or, sym, subst, arith}
use Rattle.std.specs.List.{AllByRecursion}
use Rattle.std.proofs.ByRecursion.{All-weaker, All-get_or}
use Rattle.lots.specs.Sums.{sum_of}
use Rattle.ledger.specs.declared.row.Row.{Row}
use Rattle.ledger.specs.Ledger.{Ledger}
use Rattle.ledger.specs.Invariant.{SoundRow, Invariant}
use Rattle.ledger.proofs.Histories.{invariant_of_every_history}
use Rattle.book.specs.declared.Book.{Book}
use Rattle.book.specs.Books.{ledger_of}
use Rattle.book.proofs.Rows.{no_row}

pub invariant : (b : Book) → Invariant (ledger_of b)
invariant b = invariant_of_every_history (ledger_of b) b.reached

-- no row has more than 5,000 megawatts
abbrev pub SmallRows : List Row → Type 0
SmallRows rows = AllByRecursion (λ r. r.megawatts ≤ 5000) rows

pub small_of : (l : Ledger) → Invariant l → SmallRows l.rows
small_of l i = All-weaker (SoundRow l.units l.given) (λ r. r.megawatts ≤ 5000) (λ r s. s.few_megawatts) l.rows i.sound_rows

pub small_rows : (b : Book) → SmallRows (ledger_of b).rows
small_rows b = small_of (ledger_of b) (invariant b)

pub small_at : (b : Book) (rows : List Row) → rows ≡ (ledger_of b).rows → (i : ℕ) → i < length rows → (get_or rows i no_row).megawatts ≤ 5000
small_at b rows e i h = All-get_or (λ r. r.megawatts ≤ 5000) rows i no_row h (subst SmallRows (sym e) (small_rows b))

pub small_sum : (rows : List Row) → SmallRows rows → sum_of (λ r. r.megawatts) rows ≤ 5000 * length rows
small_sum [] h = omega arith
small_sum (r ∷ rows) h = let ih = small_sum rows h.1 in omega (arith, h.0)
