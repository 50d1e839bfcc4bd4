-- Demand 2 for parts, whole.
use Rattle.bundles.specs.Demand2.{PartsDemand2}
use Rattle.bundles.proofs.ReadDone.{parts_read_exactly}
use Rattle.bundles.proofs.WriteDone.{parts_write_exactly}
use Rattle.bundles.proofs.ReadAfterWrite.{parts_read_after_write}
use Rattle.bundles.proofs.WriteAfterRead.{parts_write_after_read}

-- exactly the bundles that are as they should be are read into parts and written from them; both ways give back what was there
pub parts_demand2 : PartsDemand2
parts_demand2 = record {
  read_exactly = parts_read_exactly;
  write_exactly = parts_write_exactly;
  read_after_write = parts_read_after_write;
  write_after_read = parts_write_after_read;
}
