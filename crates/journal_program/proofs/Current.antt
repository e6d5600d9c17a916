-- Blocks that are held stay as a read gives them.
use Rattle.std.proofs.Common.{◌≡◌, ◌≢◌, ◌⊎◌, ◌∙◌, ℕ, zero, suc, Bool, true, false, List, [], ◌∷◌, set, Option, None, Some, refl, sym, ap, subst, ⊎_elim, inl, inr}
use Rattle.std.proofs.lemmas.Bool.{cases_eq}
use Rattle.std.proofs.lemmas.List.{get_or-set_other}
use Rattle.std.proofs.lemmas.Option.{none-some, same_Some}
use Rattle.journal_block.specs.Block.{Bytes}
use Rattle.journal_disk.specs.Disks.{Past, write, barrier, past_after, read_of, MayHaveHappened}
use Rattle.journal_disk.specs.Laws.{read_written, others_read}
use Rattle.journal_program.specs.Held.{held_at, HoldsNothing, AreCurrent}

-- what is held of a block once its entry is set, if it has one
set_same : (held : List (Option Bytes)) (b : ℕ) (x : Option Bytes) → (held_at (set held b x) b ≡ x) ⊎ (held_at (set held b x) b ≡ None)
set_same [] b x = inr refl
set_same (y ∷ ys) zero x = inl refl
set_same (y ∷ ys) (suc b) x = set_same ys b x

forgotten_none : (held : List (Option Bytes)) (b : ℕ) → held_at (set held b None) b ≡ None
forgotten_none held b = ⊎_elim (λ e. e) (λ e. e) (set_same held b None)

set_bytes : (held : List (Option Bytes)) (b : ℕ) (x y : Bytes) → held_at (set held b (Some x)) b ≡ Some y → x ≡ y
set_bytes held b x y is = ⊎_elim
    (λ one. same_Some x y (sym one ∙ is))
    (λ none. absurd (none-some y (sym none ∙ is)))
    (set_same held b (Some x))

-- where nothing is held
pub current_nothing : (held : List (Option Bytes)) (p : Past) → HoldsNothing held → AreCurrent held p
current_nothing held p nothing b bytes is = absurd (none-some bytes (sym (nothing b) ∙ is))

-- once a call was noted that ends the holding or not
pub current_noted : (old new : List (Option Bytes)) (is_last : Bool) (p : Past) → (is_last ≡ true → new ≡ []) → (is_last ≡ false → new ≡ old)
    → AreCurrent old p → AreCurrent new p
current_noted old new true p ends goes_on current =
    subst (λ (xs : List (Option Bytes)). AreCurrent xs p) (sym (ends refl)) (current_nothing [] p (λ b. refl))
current_noted old new false p ends goes_on current =
    subst (λ (xs : List (Option Bytes)). AreCurrent xs p) (sym (goes_on refl)) current

-- once a block is held as it reads
pub current_held : (old new : List (Option Bytes)) (p : Past) (b : ℕ) (bytes : Bytes) → AreCurrent old p → bytes ≡ read_of p b
    → (new ≡ old) ⊎ (new ≡ set old b (Some bytes)) → AreCurrent new p
current_held old new p b bytes current read held = ⊎_elim
    (λ same. subst (λ (xs : List (Option Bytes)). AreCurrent xs p) (sym same) current)
    (λ one. subst (λ (xs : List (Option Bytes)). AreCurrent xs p) (sym one) (λ c y is. ⊎_elim
    (λ (here : c ≡ b). sym (set_bytes old b bytes y (subst (λ (n : ℕ). held_at (set old b (Some bytes)) n ≡ Some y) here is))
    ∙ read ∙ ap (read_of p) (sym here))
    (λ (other : c ≢ b). current c y (sym (get_or-set_other old b c (Some bytes) None other) ∙ is))
    (cases_eq c b)))
    held

-- once a block is forgotten that may have been written
pub current_forgotten : (held new : List (Option Bytes)) (p q : Past) (b : ℕ) (bytes : Bytes) → AreCurrent held p
    → new ≡ set held b None → MayHaveHappened (write b bytes) p q → AreCurrent new q
current_forgotten held new p q b bytes current forgotten happened = subst (λ (xs : List (Option Bytes)). AreCurrent xs q) (sym forgotten) (λ c y is. ⊎_elim
    (λ (here : c ≡ b). absurd (none-some y (sym (forgotten_none held b) ∙ subst (λ (n : ℕ). held_at (set held b None) n ≡ Some y) here is)))
    (λ (other : c ≢ b). current c y (sym (get_or-set_other held b c None None other) ∙ is) ∙ sym (others_read p q c b bytes happened other))
    (cases_eq c b))

-- once it was written, and is held again
pub current_written : (held forgot new : List (Option Bytes)) (p q : Past) (b : ℕ) (bytes : Bytes) → AreCurrent held p
    → forgot ≡ set held b None → q ≡ past_after (write b bytes) p → (new ≡ forgot) ⊎ (new ≡ set forgot b (Some bytes)) → AreCurrent new q
current_written held forgot new p q b bytes current forgotten one again =
    current_held forgot new q b bytes (current_forgotten held forgot p q b bytes current forgotten (inr one))
    (sym (ap (λ (r : Past). read_of r b) one ∙ read_written p b bytes)) again

-- a barrier, or what may have been one
pub current_synced : (held : List (Option Bytes)) (p q : Past) → AreCurrent held p → MayHaveHappened barrier p q → AreCurrent held q
current_synced held p q current happened c y is = current c y is ∙ ⊎_elim
    (λ none. ap (λ (r : Past). read_of r c) (sym none))
    (λ one. sym (ap (λ (r : Past). read_of r c) one))
    happened
