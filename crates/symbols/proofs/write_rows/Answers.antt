-- `write_rows` has before each row the first k labels written, and the others still to be put. Assumes nothing.
use Rattle.std.proofs.Common.{arith, ◌+◌, ◌≤◌, ◌≡◌, length, ap, sym, ◌∙◌}
use Rattle.std.specs.Prelude.{Some}
use Rattle.std.specs.Option.{option_map}
use Rattle.rules.specs.Limits.{max_lines}
use Rattle.requests.specs.Symbols.{rows}
use Rattle.label.specs.Numbers.{numbers_of}
use Rattle.symbols.specs.Symbols.{next_in}
use Rattle.symbols.proofs.Listing.{listing_start, RowFits, row_fits, line_low, listing_on, listing_end}
use Rattle.symbols.proofs.write_rows.Goals as goal
use Rattle.symbols.proofs.write_rows.Goals.{In-Some, After-count_breaks-line}

-- what is known of the row found, and of the lines before it
is : (c : In-Some) → Some c.in-Some.row ≡ option_map numbers_of (next_in c.loop-row.from c.args.labels.now.table)
is c = sym c.in-Some.is ∙ c.next_row.ensures

fits : (c : In-Some) → RowFits c.args.labels.now.source (rows c.loop-row.starts c.loop-row.lengths c.loop-row.addresses c.loop-row.lines) c.loop-row.at c.loop-row.from c.loop-row.k c.in-Some.row
fits c = row_fits c.requires c.loop-row.invariant (is c)

low : (c : After-count_breaks-line) → c.loop-row.line + c.count_breaks-line.result ≤ max_lines
low c = line_low c.requires c.loop-row.invariant (sym c.in-Some.is ∙ c.next_row.ensures) (rw c.source-source.ensures at c.count_breaks-line.ensures)

pub loop-row-init : goal.loop-row-init
loop-row-init c = listing_start _ _

pub slice_bounds-count_breaks-count : goal.slice_bounds-count_breaks-count
slice_bounds-count_breaks-count c = (fits (goal.at.slice_bounds-count_breaks-count c).In-Some).after

pub slice_bounds-count_breaks-start : goal.slice_bounds-count_breaks-start
slice_bounds-count_breaks-start c = (fits (goal.at.slice_bounds-count_breaks-start c).In-Some).after

pub slice_bounds-count_breaks-end : goal.slice_bounds-count_breaks-end
slice_bounds-count_breaks-end c = omega (arith, fits (goal.at.slice_bounds-count_breaks-end c).In-Some, ap length c.source-source.ensures)

pub overflow_add-line : goal.overflow_add-line
overflow_add-line c = omega (arith, low c)

pub overflow_cast-starts : goal.overflow_cast-starts
overflow_cast-starts c = omega (arith, fits (goal.at.overflow_cast-starts c).In-Some)

pub bounds-starts-k : goal.bounds-starts-k
bounds-starts-k c = (fits (goal.at.bounds-starts-k c).In-Some).starts

pub overflow_cast-lengths : goal.overflow_cast-lengths
overflow_cast-lengths c = omega (arith, fits (goal.at.overflow_cast-lengths c).In-Some)

pub bounds-lengths-k : goal.bounds-lengths-k
bounds-lengths-k c = (fits (goal.at.bounds-lengths-k c).In-Some).lengths

pub bounds-addresses-k : goal.bounds-addresses-k
bounds-addresses-k c = (fits (goal.at.bounds-addresses-k c).In-Some).addresses

pub overflow_cast-lines : goal.overflow_cast-lines
overflow_cast-lines c = omega (arith, low (goal.at.overflow_cast-lines c).After-count_breaks-line)

pub bounds-lines-k : goal.bounds-lines-k
bounds-lines-k c = (fits (goal.at.bounds-lines-k c).In-Some).lines

pub loop-row-smaller : goal.loop-row-smaller
loop-row-smaller c = omega (arith, fits (goal.at.loop-row-smaller c).In-Some)

pub loop-row-preserved : goal.loop-row-preserved
loop-row-preserved c = listing_on c.requires c.loop-row.invariant (sym c.in-Some.is ∙ c.next_row.ensures) (rw c.source-source.ensures at c.count_breaks-line.ensures)

pub returns : goal.returns
returns c = listing_end c.requires c.loop-row.invariant (sym c.in_default.is ∙ c.next_row.ensures)
