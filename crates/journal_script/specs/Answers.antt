-- The lines that answers are printed as.
use Rattle.std.specs.Prelude.{ℕ, ◌≡◌, List, [], ◌∷◌, ◌++◌, codes}
use Rattle.std.specs.List.{flat_map}
use Rattle.std.specs.Fmt.{decimal}
use Rattle.journal_world.specs.declared.refusal.Refusal.{Refusal}
use Rattle.journal_world.specs.Refusals.{refusal_name}
use Rattle.journal_parts.specs.declared.stat.Stat.{Stat}
use Rattle.journal_script.specs.declared.answer.Answer.{Answer}
use Rattle.journal_script.specs.declared.answer.Answer.TheVariants as answers
use Rattle.journal_command.specs.Values.{text_of}

-- the numbers of a mount, as printed
abbrev pub stat_text : Stat → List ℕ
stat_text s = codes "commits " ++ decimal s.commits ++ codes " floor " ++ decimal s.floor
    ++ codes " start " ++ decimal s.start ++ codes " end " ++ decimal s.end

-- a block and the number of its pending writes
abbrev pub pair_text : ℕ × ℕ → List ℕ
pair_text p = codes " " ++ decimal p.0 ++ codes ":" ++ decimal p.1

-- the blocks with pending writes
abbrev pub pending_text : List (ℕ × ℕ) → List ℕ
pending_text [] = codes " none"
pending_text (p ∷ ps) = flat_map pair_text (p ∷ ps)

-- the line that is printed
abbrev pub answer_line : Answer → List ℕ
answer_line answers.Done = codes "ok" ++ 10 ∷ []
answer_line (answers.Value v) = codes "= " ++ text_of v ++ 10 ∷ []
answer_line (answers.Committed n) = codes "committed " ++ decimal n ++ 10 ∷ []
answer_line answers.NoTransaction = codes "no transaction" ++ 10 ∷ []
answer_line (answers.Stable n) = codes "stable " ++ decimal n ++ 10 ∷ []
answer_line (answers.Logged n) = codes "log " ++ decimal n ++ 10 ∷ []
answer_line (answers.Installed n) = codes "install " ++ decimal n ++ 10 ∷ []
answer_line (answers.Stat s) = stat_text s ++ 10 ∷ []
answer_line (answers.Pending pending) = codes "pending" ++ pending_text pending.items ++ 10 ∷ []
answer_line answers.Opened = codes "opened" ++ 10 ∷ []
answer_line answers.Up = codes "up" ++ 10 ∷ []
answer_line answers.Down = codes "down" ++ 10 ∷ []
answer_line answers.Lost = codes "lost" ++ 10 ∷ []
answer_line (answers.Refused why) = codes "refused " ++ refusal_name why ++ 10 ∷ []
answer_line answers.BadLine = codes "bad line" ++ 10 ∷ []
answer_line answers.Nothing = []

-- what a line is answered that says no command
abbrev pub to_no_command : List ℕ → Answer
to_no_command [] = answers.Nothing
to_no_command (byte ∷ bytes) = answers.BadLine

-- that it was refused, is answered
abbrev pub Refuses : {C : Type 0} → Refusal C → Answer → Type 0
Refuses why (answers.Refused told) = refusal_name told ≡ refusal_name why
Refuses why answer = ⊥
