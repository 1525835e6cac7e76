use Rattle.flat_assigns.proofs.Common.{add-one, names_of}
use Rattle.flat_assigns.proofs.Leaves.{is_bit, is_indexed}
use Rattle.flat_assigns.proofs.Scans.{scanned_more, scanned_none}
use Rattle.flat_assigns.proofs.scan.+scan.Goals as goal

pub scan-indexed-requires : goal.scan-indexed-requires
scan-indexed-requires t c = is_bit c.args.left.now c.in-BitSelect.name c.in-BitSelect.field-1 c.in-BitSelect.index c.get.result.now c.in-BitSelect.is c.get.ensures

pub scan-indexed-requires-in-IndexedPartSelect : goal.scan-indexed-requires-in-IndexedPartSelect
scan-indexed-requires-in-IndexedPartSelect t c = is_indexed c.args.left.now c.in-IndexedPartSelect.name c.in-IndexedPartSelect.field-1 c.in-IndexedPartSelect.base c.in-IndexedPartSelect.field-3 c.get-in-IndexedPartSelect.result.now c.in-IndexedPartSelect.is c.get-in-IndexedPartSelect.ensures

pub scan_all-loop-part-init : goal.scan_all-loop-part-init
scan_all-loop-part-init t c = scanned_none (names_of c.args.scope.now) c.args.slices.now.items

pub scan_all-loop-part-preserved : goal.scan_all-loop-part-preserved
scan_all-loop-part-preserved t c =
    rw add-one (scanned_more (names_of c.args.scope.now) c.args.slices.now.items c.loop-part.slices.items c.scan.new.slices.items c.args.parts.now c.loop-part.part-index c.part-item.result c.loop-part.found c.in_ok-scan.field-0 c.earlier-found.result c.part-item.is c.loop-part-test.true c.loop-part.invariant c.in_ok-scan.ensures c.earlier-found.ensures.earlier)
