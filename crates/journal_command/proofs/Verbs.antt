-- The verb of a command, which its first word tells.
use Rattle.std.proofs.Common.{◌≡◌, ◌≢◌, ℕ, ◌+◌, ◌*◌, ◌<◌, List, [], ◌∷◌, Option, Some, None, refl, sym, ap, subst, ◌∙◌, arith, get_or, drop}
use Rattle.std.specs.Prelude.{◌==◌, if◌then◌else◌, IfNone, IfSome}
use Rattle.journal_command.specs.declared.command.Command.{Command}
use Rattle.journal_command.specs.declared.command.verb.TheConstants.{VERBS}
use Rattle.journal_command.specs.declared.command.verb.Verb.{Verb}
use Rattle.journal_command.specs.declared.command.verb.Verb.TheVariants as verbs
use Rattle.journal_command.specs.Commands.{line_words, verb_text, FollowsVerb, Says, LineSays}

-- ---- a verb is known by its first three letters

abbrev letters : List ℕ → ℕ
letters w = get_or w 0 0 * 65536 + get_or w 1 0 * 256 + get_or w 2 0

abbrev verb_at : ℕ → Verb
verb_at n =
    if n == 7370100 then verbs.Put else
    if n == 6776180 then verbs.Get else
    if n == 6516589 then verbs.Commit else
    if n == 6382191 then verbs.Abort else
    if n == 6710638 then verbs.Fence else
    if n == 7823721 then verbs.Wait else
    if n == 7106407 then verbs.Log else
    if n == 6909555 then verbs.Install else
    if n == 7566433 then verbs.Stat else
    if n == 7365998 then verbs.Pend else
    if n == 6580595 then verbs.Disk else
    if n == 6709609 then verbs.Fail else
    if n == 6582135 then verbs.Down else
    if n == 7303269 then verbs.Open else
    if n == 6517345 then verbs.Crash else
    if n == 7368555 then verbs.Poke else
    if n == 7106419 then verbs.Lose else
    verbs.Mend

known : (v : Verb) → verb_at (letters (verb_text v)) ≡ v
known verbs.Put = refl
known verbs.Get = refl
known verbs.Commit = refl
known verbs.Abort = refl
known verbs.Fence = refl
known verbs.Wait = refl
known verbs.Log = refl
known verbs.Install = refl
known verbs.Stat = refl
known verbs.Pend = refl
known verbs.Disk = refl
known verbs.Fail = refl
known verbs.Down = refl
known verbs.Open = refl
known verbs.Crash = refl
known verbs.Poke = refl
known verbs.Lose = refl
known verbs.Mend = refl

verb_text_injective : (v w : Verb) → verb_text v ≡ verb_text w → v ≡ w
verb_text_injective v w e = sym (known v) ∙ ap (λ t. verb_at (letters t)) e ∙ known w

-- ---- where words say no command

abbrev first_word : List (List ℕ) → List ℕ
first_word ws = get_or ws 0 []

-- where the first is no verb, the words say nothing
pub says_none-no_verb : (ws more : List (List ℕ)) (w : List ℕ) → ws ≡ w ∷ more → ((verb : Verb) → w ≢ verb_text verb) → (command : Command) → Says ws command → ⊥
says_none-no_verb ws more w is none command (verb, behind, says, follows) = none verb (ap first_word (sym is ∙ says))

-- nor where the others may not follow it
says_none-behind : (ws more : List (List ℕ)) (w : List ℕ) (verb : Verb) → ws ≡ w ∷ more → w ≡ verb_text verb → ((command : Command) → FollowsVerb verb more command → ⊥) → (command : Command) → Says ws command → ⊥
says_none-behind ws more w verb is word none command (other, behind, says, follows) =
    let same : other ≡ verb = verb_text_injective other verb (ap first_word (sym says ∙ is) ∙ word) in
    let rest : behind ≡ more = ap (drop 1) (sym says ∙ is) in
    none command (subst (λ v. FollowsVerb v more command) same (subst (λ l. FollowsVerb other l command) rest follows))

-- so where no command was read behind a verb, the words say none
pub says_none-read : (result : Option Command) (ws more : List (List ℕ)) (w : List ℕ) (verb : Verb) → ws ≡ w ∷ more → w ≡ verb_text verb → IfNone result ((command : Command) → FollowsVerb verb more command → ⊥) → IfNone result ((command : Command) → Says ws command → ⊥)
says_none-read None ws more w verb is word none = says_none-behind ws more w verb is word none
says_none-read (Some c) ws more w verb is word none = tt

-- and where one was read, they say it
pub says-read : (result : Option Command) (ws more : List (List ℕ)) (w : List ℕ) (verb : Verb) → ws ≡ w ∷ more → w ≡ verb_text verb → IfSome result (FollowsVerb verb more) → IfSome result (Says ws)
says-read None ws more w verb is word found = tt
says-read (Some c) ws more w verb is word found = (verb, more, is ∙ ap (λ t. t ∷ more) word, found)

-- ---- the bytes that a command names

-- where the words say no command, the line says none
pub none_said : (result : Option Command) (line : List ℕ) → IfNone result ((command : Command) → Says (line_words line) command → ⊥) → IfNone result ((command : Command) → LineSays line command → ⊥)
none_said None line none = λ command says. none command says.1
none_said (Some c) line none = tt

-- ---- the table of verbs

-- a word that is none of the table's is no verb
pub no_verb : (word : List ℕ) → ((k : ℕ) → k < 18 → word ≢ verb_text (get_or VERBS k verbs.Put)) → (verb : Verb) → word ≢ verb_text verb
no_verb word none verbs.Put = none 0 (omega arith)
no_verb word none verbs.Get = none 1 (omega arith)
no_verb word none verbs.Commit = none 2 (omega arith)
no_verb word none verbs.Abort = none 3 (omega arith)
no_verb word none verbs.Fence = none 4 (omega arith)
no_verb word none verbs.Wait = none 5 (omega arith)
no_verb word none verbs.Log = none 6 (omega arith)
no_verb word none verbs.Install = none 7 (omega arith)
no_verb word none verbs.Stat = none 8 (omega arith)
no_verb word none verbs.Pend = none 9 (omega arith)
no_verb word none verbs.Disk = none 10 (omega arith)
no_verb word none verbs.Fail = none 11 (omega arith)
no_verb word none verbs.Down = none 12 (omega arith)
no_verb word none verbs.Open = none 13 (omega arith)
no_verb word none verbs.Crash = none 14 (omega arith)
no_verb word none verbs.Poke = none 15 (omega arith)
no_verb word none verbs.Lose = none 16 (omega arith)
no_verb word none verbs.Mend = none 17 (omega arith)
