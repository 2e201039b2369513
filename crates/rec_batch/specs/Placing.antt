-- A batch at its place in a log: the broker sets its base offset and leader epoch, over which the checksum isn't taken
-- (Apache Kafka documentation, "Record Batch"). This broker's leader epoch is 0.
--
-- Worked example: at the base 0102030405060708 a batch begins with these eight bytes, and all bytes from 16 on stay.
use Rattle.std.specs.Prelude.{ℕ, List, ◌++◌, take, drop, replicate}
use Rattle.std.specs.Int.{w64, to_be_bytes}

-- the base offset in eight bytes, the length as it is, the leader epoch 0 in four bytes, and all that follows as it is
unfoldable pub placed : ℕ → List ℕ → List ℕ
placed base bytes = to_be_bytes w64 base ++ (take 4 (drop 8 bytes) ++ (replicate 4 0 ++ drop 16 bytes))
