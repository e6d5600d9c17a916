-- What may stand behind a verb, where a part of it is told.
use Rattle.std.proofs.Common.{◌≡◌, ℕ, ◌+◌, nat_le, Bool, true, false, List, [], ◌∷◌, length, Option, Some, None, Bor, sym, ap, ◌∙◌, arith, get_or}
use Rattle.std.specs.Prelude.{◌&&◌, IfSome}
use Rattle.std.specs.Fmt.{decimal}
use Rattle.std.proofs.lemmas.Bool.Decides.{nat_tests}
use Rattle.std.proofs.lemmas.Fmt.{decimal_injective}
use Rattle.journal_command.specs.declared.command.Choice.{Choice}
use Rattle.journal_command.specs.declared.command.Command.{Command}
use Rattle.journal_command.specs.declared.command.Command.TheVariants as commands
use Rattle.journal_command.specs.declared.command.verb.Verb.TheVariants as verbs
use Rattle.journal_command.specs.Values.{SpellsValue}
use Rattle.journal_command.specs.Commands.{IsNumber, InBlock, IsChoice, FollowsVerb}

-- ---- byte ranges

-- a range passes the test
abbrev is_in_block : ℕ → ℕ → Bool
is_in_block at len = nat_le 1 len && nat_le (at + len) 4096

InBlock-from_test : (at len : ℕ) → is_in_block at len ≡ true → InBlock at len
InBlock-from_test at len e = (grind (arith, nat_tests), grind (arith, nat_tests))

not_in_block : (at len : ℕ) → is_in_block at len ≡ false → InBlock at len → ⊥
not_in_block at len e (some, inside) = grind (arith, nat_tests)

-- ---- behind `put`

pub put_unspelled : (ws more : List (List ℕ)) (block off text : List ℕ) → ws ≡ block ∷ off ∷ text ∷ more → ((value : List ℕ) → SpellsValue text value → ⊥) → (c : Command) → FollowsVerb verbs.Put ws c → ⊥
put_unspelled ws more block off text is none c (a, t, value, short, spells, asks) =
    let same : t ≡ text = ap (λ l. get_or l 2 []) (sym short.1 ∙ is) in
    none value.now (rw same at spells)

-- ---- behind `disk`

pub disk_outside : (ws more : List (List ℕ)) (block at len : ℕ) → ws ≡ decimal block ∷ decimal at ∷ decimal len ∷ more → IsNumber at → IsNumber len → is_in_block at len ≡ false → (c : Command) → FollowsVerb verbs.Disk ws c → ⊥
disk_outside ws more block at len is small short outside c (b, a, l, number, inside, says, asks) =
    let e = sym says ∙ is in
    let same_at = decimal_injective a at (omega (arith, inside)) (omega arith) (ap (λ l. get_or l 1 []) e) in
    let same_len = decimal_injective l len (omega (arith, inside)) (omega arith) (ap (λ l. get_or l 2 []) e) in
    not_in_block at len outside (omega (arith, inside), omega (arith, inside))

-- ---- behind `fail`

pub fail_at_zero : (ws more : List (List ℕ)) (call : ℕ) → ws ≡ decimal call ∷ more → call ≡ 0 → (c : Command) → FollowsVerb verbs.Fail ws c → ⊥
fail_at_zero ws more call is zero c (n, some, small, says, asks) =
    let same = decimal_injective n call (omega arith) (omega arith) (ap (λ l. get_or l 0 []) (sym says ∙ is)) in
    omega arith

-- ---- behind `poke`

pub poke_unspelled : (ws more : List (List ℕ)) (block at text : List ℕ) → ws ≡ block ∷ at ∷ text ∷ more → ((value : List ℕ) → SpellsValue text value → ⊥) → (c : Command) → FollowsVerb verbs.Poke ws c → ⊥
poke_unspelled ws more block at text is none c (b, a, t, value, number, inside, spells, says, asks) =
    let same : t ≡ text = ap (λ l. get_or l 2 []) (sym says ∙ is) in
    none value.now (rw same at spells)

pub poke_outside : (ws more : List (List ℕ)) (block at : ℕ) (text value : List ℕ) → ws ≡ decimal block ∷ decimal at ∷ text ∷ more → IsNumber at → ((other : List ℕ) → SpellsValue text other → other ≡ value) → is_in_block at (length value) ≡ false → (c : Command) → FollowsVerb verbs.Poke ws c → ⊥
poke_outside ws more block at text value is small only outside c (b, a, t, v, number, inside, spells, says, asks) =
    let e = sym says ∙ is in
    let same_at = decimal_injective a at (omega (arith, inside)) (omega arith) (ap (λ l. get_or l 1 []) e) in
    let same_text : t ≡ text = ap (λ l. get_or l 2 []) e in
    let same = ap length (only v.now (rw same_text at spells)) in
    not_in_block at (length value) outside (omega (arith, inside), omega (arith, inside))

pub poke_says : (result : Option Command) (command : Command) (ws more : List (List ℕ)) (block at : ℕ) (text : List ℕ) (value : Bor (List ℕ)) → command ≡ commands.Poke block at value
    → IfSome result (λ found. (more ≡ []) × (found ≡ command)) → ws ≡ decimal block ∷ decimal at ∷ text ∷ more → IsNumber block → SpellsValue text value.now → is_in_block at (length value.now) ≡ true
    → IfSome result (FollowsVerb verbs.Poke ws)
poke_says None command ws more block at text value asks found is small spells inside = tt
poke_says (Some c) command ws more block at text value asks (none, same) is small spells inside =
    (block, at, text, value, small, InBlock-from_test at (length value.now) inside, spells, is ∙ ap (λ l. decimal block ∷ decimal at ∷ text ∷ l) none, same ∙ asks)

-- ---- after `down`, `crash` and `lose`

pub no_choice-down : (ws : List (List ℕ)) → ((choice : Choice) → IsChoice ws choice → ⊥) → (c : Command) → FollowsVerb verbs.Down ws c → ⊥
no_choice-down ws none c (choice, is, asks) = none choice is

pub no_choice-crash : (ws : List (List ℕ)) → ((choice : Choice) → IsChoice ws choice → ⊥) → (c : Command) → FollowsVerb verbs.Crash ws c → ⊥
no_choice-crash ws none c (choice, is, asks) = none choice is

pub no_choice-lose : (ws : List (List ℕ)) → ((choice : Choice) → IsChoice ws choice → ⊥) → (c : Command) → FollowsVerb verbs.Lose ws c → ⊥
no_choice-lose ws none c (choice, is, asks) = none choice is
