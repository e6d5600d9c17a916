use Rattle.std.proofs.Common.{◌≢◌, ℕ, ◌<◌, get_or}
use Rattle.journal_command.specs.declared.command.verb.Verb.TheVariants as verbs
use Rattle.journal_command.specs.Commands.{verb_text}
use Rattle.journal_command.proofs.command.verb.Verb.read.Given as goal

-- the word is none of the verbs so far
abbrev pub invariant-loop-verb : goal.invariant-loop-verb
invariant-loop-verb l = (k : ℕ) → k < l.verb-index → l.word ≢ verb_text (get_or l.verb-items k verbs.Put)
