-- What is left loses the bytes at the front of the buffer.
use Rattle.std.proofs.Common.{◌≡◌, length, take, drop, arith}
use Rattle.std.proofs.lemmas.Grind.{common_steps}
use Rattle.spl_outside.proofs.Pieces.{left-take}
use Rattle.spl_outside.proofs.memory.MemSourceSource.read.Goals as goal

pub returns-clause-taken : goal.returns-clause-taken
returns-clause-taken c =
    let copied : c.copy_from_slice.new.self ≡ take c.min-n.result
    (drop c.args.self.now.start c.args.self.now.bytes.items) = grind (arith, common_steps) in
    let len : length c.copy_from_slice.new.self ≡ c.min-n.result = grind (arith, common_steps) in
    left-take c.args.self.now.start c.min-n.result c.args.self.now.bytes.items c.copy_from_slice.new.self
    (drop c.min-n.result c.args.buf.now) copied len
