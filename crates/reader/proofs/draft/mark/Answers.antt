use Rattle.std.proofs.Common.{true, sym, arith}
use Rattle.std.proofs.lemmas.List.{set_past}
use Rattle.reader.proofs.draft.mark.Goals as goal

pub returns-else-n-flags : goal.returns-else-n-flags
returns-else-n-flags c = sym (set_past c.args.flags.now c.args.n true (omega arith))
