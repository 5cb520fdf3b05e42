use Rattle.std.proofs.Common.{◌≡◌, map, take, chars}
use Rattle.coll_command_line.proofs.tasks.copied_texts.Given as goal

-- the texts met so far are copied
abbrev pub invariant-loop-text : goal.invariant-loop-text
invariant-loop-text l = l.copies.items ≡ map (λ text. chars text.now) (take l.text-index l.fn.texts)
