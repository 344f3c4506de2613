-- The part that is printed is within the buffer.
use Rattle.report.specs.Printing.{printed_fits, printed_part}
use Rattle.gantry_report.proofs.main.Goals as goal

pub slice_bounds-out-end : goal.slice_bounds-out-end
slice_bounds-out-end c = printed_fits c.printed-written.ensures

pub slice_bounds-write_all-end : goal.slice_bounds-write_all-end
slice_bounds-write_all-end c = printed_part c.printed-written.ensures
