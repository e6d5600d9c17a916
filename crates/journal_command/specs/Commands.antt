-- The command of a line of a script.
use Rattle.std.specs.Prelude.{ℕ, ◌≡◌, ◌+◌, ◌<◌, ◌≤◌, ◌^◌, ◌==◌, List, [], ◌∷◌, length, map, Option, Some, None, codes}
use Rattle.std.specs.List.{slice_split, join_with_byte, AllByRecursion}
use Rattle.std.specs.Fmt.{decimal}
use Rattle.journal_world.specs.declared.address.Addr.{Addr}
use Rattle.journal_command.specs.declared.command.Choice.{Choice}
use Rattle.journal_command.specs.declared.command.Choice.TheVariants as choices
use Rattle.journal_command.specs.declared.command.Command.{Command}
use Rattle.journal_command.specs.declared.command.Command.TheVariants as commands
use Rattle.journal_command.specs.declared.command.verb.Verb.{Verb}
use Rattle.journal_command.specs.declared.command.verb.Verb.TheVariants as verbs
use denote.Ref.{Bor}
use Rattle.journal_command.specs.Values.{SpellsValue}

-- the words of a line: the texts between its spaces
abbrev pub line_words : List ℕ → List (List ℕ)
line_words line = slice_split (λ b. b == 32) line

-- the words that are left, of a line of which this is left
abbrev pub words_left : Option (List ℕ) → List (List ℕ)
words_left None = []
words_left (Some rest) = line_words rest

-- how a verb is written
abbrev pub verb_text : Verb → List ℕ
verb_text verbs.Put = codes "put"
verb_text verbs.Get = codes "get"
verb_text verbs.Commit = codes "commit"
verb_text verbs.Abort = codes "abort"
verb_text verbs.Fence = codes "fence"
verb_text verbs.Wait = codes "wait"
verb_text verbs.Log = codes "log"
verb_text verbs.Install = codes "install"
verb_text verbs.Stat = codes "stat"
verb_text verbs.Pend = codes "pend"
verb_text verbs.Disk = codes "disk"
verb_text verbs.Fail = codes "fail"
verb_text verbs.Down = codes "down"
verb_text verbs.Open = codes "open"
verb_text verbs.Crash = codes "crash"
verb_text verbs.Poke = codes "poke"
verb_text verbs.Lose = codes "lose"
verb_text verbs.Mend = codes "mend"

-- a line can have the number
abbrev pub IsNumber : ℕ → Type 0
IsNumber n = n < 2 ^ 32

-- a line can name the address: its numbers are below 2 ^ 32
abbrev pub CanBeWritten : Addr → Type 0
CanBeWritten a = (a.block < 2 ^ 32) × (a.off < 2 ^ 32)

-- the words are an address, and then others
abbrev pub AddrThen : List (List ℕ) → Addr → List (List ℕ) → Type 0
AddrThen ws a more = CanBeWritten a × (ws ≡ decimal a.block ∷ decimal a.off ∷ more)

-- the words are a number, where there is one to say, and no others
abbrev pub AtMost : List (List ℕ) → Option ℕ → Type 0
AtMost ws None = ws ≡ []
AtMost ws (Some most) = IsNumber most × (ws ≡ decimal most ∷ [])

-- this many bytes from this one on are inside a block
abbrev pub InBlock : ℕ → ℕ → Type 0
InBlock at len = (1 ≤ len) × (at + len ≤ 4096)

-- The text lists the numbers, in decimal, joined by commas. A line has no room for more than 10000
pub record Lists (text numbers : List ℕ) : Type 0 where
  pub some : 0 < length numbers
  pub fits : length numbers ≤ 10000
  pub are_numbers : AllByRecursion IsNumber numbers
  pub is_text : text ≡ join_with_byte 44 (map decimal numbers)

-- the text chooses an image of the disk
abbrev pub Chooses : List ℕ → Choice → Type 0
Chooses text choices.Stable = text ≡ codes "none"
Chooses text choices.Last = text ≡ codes "all"
Chooses text (choices.Listed numbers) = Lists text numbers.now

-- the words are a choice, and no others
abbrev pub IsChoice : List (List ℕ) → Choice → Type 0
IsChoice ws choice = (text : List ℕ) × Chooses text choice × (ws ≡ text ∷ [])

-- the words may follow the verb, and say the command with it
abbrev pub FollowsVerb : Verb → List (List ℕ) → Command → Type 0
FollowsVerb verbs.Put ws c = (a : Addr) × (text : List ℕ) × (value : Bor (List ℕ)) × AddrThen ws a (text ∷ []) × SpellsValue text value.now × (c ≡ commands.Put a value)
FollowsVerb verbs.Get ws c = (a : Addr) × AddrThen ws a [] × (c ≡ commands.Get a)
FollowsVerb verbs.Commit ws c = (ws ≡ []) × (c ≡ commands.Commit)
FollowsVerb verbs.Abort ws c = (ws ≡ []) × (c ≡ commands.Abort)
FollowsVerb verbs.Fence ws c = (ws ≡ []) × (c ≡ commands.Fence)
FollowsVerb verbs.Wait ws c = (ws ≡ []) × (c ≡ commands.Wait)
FollowsVerb verbs.Log ws c = (most : Option ℕ) × AtMost ws most × (c ≡ commands.Log most)
FollowsVerb verbs.Install ws c = (most : Option ℕ) × AtMost ws most × (c ≡ commands.Install most)
FollowsVerb verbs.Stat ws c = (ws ≡ []) × (c ≡ commands.Stat)
FollowsVerb verbs.Pend ws c = (ws ≡ []) × (c ≡ commands.Pend)
FollowsVerb verbs.Disk ws c = (block : ℕ) × (at : ℕ) × (len : ℕ) × IsNumber block × InBlock at len × (ws ≡ decimal block ∷ decimal at ∷ decimal len ∷ []) × (c ≡ commands.Disk block at len)
FollowsVerb verbs.Fail ws c = (call : ℕ) × (1 ≤ call) × IsNumber call × (ws ≡ decimal call ∷ []) × (c ≡ commands.Fail call)
FollowsVerb verbs.Down ws c = (choice : Choice) × IsChoice ws choice × (c ≡ commands.Down choice)
FollowsVerb verbs.Open ws c = (ws ≡ []) × (c ≡ commands.Open)
FollowsVerb verbs.Crash ws c = (choice : Choice) × IsChoice ws choice × (c ≡ commands.Crash choice)
FollowsVerb verbs.Poke ws c = (block : ℕ) × (at : ℕ) × (text : List ℕ) × (value : Bor (List ℕ)) × IsNumber block × InBlock at (length value.now) × SpellsValue text value.now × (ws ≡ decimal block ∷ decimal at ∷ text ∷ []) × (c ≡ commands.Poke block at value)
FollowsVerb verbs.Lose ws c = (choice : Choice) × IsChoice ws choice × (c ≡ commands.Lose choice)
FollowsVerb verbs.Mend ws c = (ws ≡ []) × (c ≡ commands.Mend)

-- the words say the command
abbrev pub Says : List (List ℕ) → Command → Type 0
Says ws c = (verb : Verb) × (behind : List (List ℕ)) × (ws ≡ verb_text verb ∷ behind) × FollowsVerb verb behind c

-- the line says the command, by its words: one of more than 20000 bytes says none
abbrev pub LineSays : List ℕ → Command → Type 0
LineSays line c = (length line ≤ 20000) × Says (line_words line) c

-- the bytes that the command names lie in a block
abbrev pub IsInside : Command → Type 0
IsInside (commands.Disk block at len) = at + len ≤ 4096
IsInside (commands.Poke block at v) = at + length v.now ≤ 4096
IsInside _ = Unit {0}
