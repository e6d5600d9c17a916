-- What the updates at the places of a list say of a block.
use Rattle.std.proofs.Common.{◌≡◌, ◌≢◌, ℕ, zero, suc, ◌+◌, ◌<◌, eqb, ◌||◌, Bool, true, false, List, [], ◌∷◌, length, drop, get_or, Option, Some, refl, sym, ap, ◌∙◌, arith}
use Rattle.std.proofs.lemmas.List.{get_or-drop, get_or_default, get_or-map}
use Rattle.std.proofs.lemmas.Bool.{cond-true, eq-eqb, ne_eqb, or_right}
use Rattle.journal_block.specs.declared.update.Update.{Update}
use Rattle.journal_block.specs.Block.{Bytes}
use Rattle.journal_block.specs.Updates.{updated, updates_block}
use Rattle.journal_block.specs.UpdateLaws.{updated-unnamed}
use Rattle.journal_memlog.specs.declared.entry.Entry.{Entry}
use Rattle.journal_memlog.specs.Buckets.{no_update, update_at}
use Rattle.journal_memlog.specs.Index.{updates_of, earlier_of}

-- only one value is found
pub same_some : {X : Type 0} {o : Option X} {x y : X} → o ≡ Some x → o ≡ Some y → x ≡ y
same_some first second = cc

-- a block has an update where one stands at some place, and none where none does
pub stands_at : (updates : List Update) (b k : ℕ) → k < length updates → (update_at updates k).block ≡ b
    → updates_block updates b ≡ true
stands_at [] b k lt is = absurd (omega arith)
stands_at (u ∷ later) b zero lt is = ap (λ (v : Bool). v || updates_block later b) (eq-eqb u.block b is)
stands_at (u ∷ later) b (suc k) lt is = or_right (eqb u.block b) (updates_block later b) (stands_at later b k (omega arith) is)

pub stands_nowhere : (updates : List Update) (b : ℕ)
    → ((k : ℕ) → k < length updates → (update_at updates k).block ≢ b) → updates_block updates b ≡ false
stands_nowhere [] b none = refl
stands_nowhere (u ∷ later) b none =
    ap (λ (v : Bool). v || updates_block later b) (ne_eqb u.block b (none 0 (omega arith)))
    ∙ stands_nowhere later b (λ k lt. none (suc k) (omega arith))

-- the last update of a block says what the block has
pub updated_by_last : (updates : List Update) (b k : ℕ) (bytes : Bytes) → k < length updates → (update_at updates k).block ≡ b
    → ((j : ℕ) → k < j → j < length updates → (update_at updates j).block ≢ b)
    → updated updates b bytes ≡ (update_at updates k).bytes
updated_by_last [] b k bytes lt is last = absurd (omega arith)
updated_by_last (u ∷ later) b zero bytes lt is last =
    updated-unnamed later b _ (stands_nowhere later b (λ j within. last (suc j) (omega arith) (omega arith)))
    ∙ cond-true (eqb u.block b) u.bytes bytes (eq-eqb u.block b is)
updated_by_last (u ∷ later) b (suc k) bytes lt is last =
    updated_by_last later b k _ (omega arith) is (λ j after within. last (suc j) (omega arith) (omega arith))

-- the update at a place of the later ones
pub at_drop : (n : ℕ) (updates : List Update) (k : ℕ) (d : Update) → n + k < length updates → get_or (drop n updates) k d ≡ update_at updates (n + k)
at_drop n updates k d lt = get_or-drop n updates k d ∙ get_or_default updates (n + k) d _ lt

-- Entries by place

pub update_is : (entries : List Entry) (k : ℕ) (entry : Entry) → k < length entries → entry ≡ get_or entries k entry
    → update_at (updates_of entries) k ≡ entry.update
update_is entries k entry lt read = get_or-map (λ (e : Entry). e.update) entries k entry no_update lt ∙ ap (λ (e : Entry). e.update) (sym read)

pub earlier_is : (entries : List Entry) (k : ℕ) (entry : Entry) → k < length entries → entry ≡ get_or entries k entry
    → get_or (earlier_of entries) k 0 ≡ entry.earlier
earlier_is entries k entry lt read = get_or-map (λ (e : Entry). e.earlier) entries k entry 0 lt ∙ ap (λ (e : Entry). e.earlier) (sym read)
