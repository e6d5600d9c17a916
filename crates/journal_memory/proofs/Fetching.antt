-- What is fetched for a read or a commit is all that memory lacks.
use Rattle.std.proofs.Common.{◌≡◌, ◌<◌, ◌≤◌, ℕ, Bool, true, false, cond, not, ◌&&◌, ◌||◌, List, [], ◌∷◌, ◌++◌, map, IsTrue, Some, None, Result, Ok, Err, IfOk, All, refl, sym, ap, subst, ◌∙◌, arith}
use Rattle.std.proofs.lemmas.Bool.{false≢true, and_parts, eq-eqb, le-leb}
use Rattle.std.proofs.lemmas.Option.{none-some}
use Rattle.std.proofs.lemmas.List.Elements.{All-head, All-tail, All-cons}
use Rattle.journal_world.specs.declared.address.Addr.{Addr}
use Rattle.journal_world.specs.declared.refusal.Refusal.{Refusal}
use Rattle.journal_world.specs.Addresses.{Value, is_valid, kind_of, Shape}
use Rattle.journal_world.specs.Maps.{Pair, is_value_at, is_object, are_objects}
use Rattle.journal_block.specs.declared.update.Update.{Update}
use Rattle.journal_block.specs.Updates.{updates_block}
use Rattle.journal_memlog.specs.Laws.{updates_block-append}
use Rattle.journal_object.proofs.MapOfBlocks.{valid_block}
use Rattle.journal_tail.specs.declared.prepare.Preparation.{Preparation}
use Rattle.journal_tail.specs.declared.prepare.Preparation.TheVariants.{Ready, Missing}
use Rattle.journal_tail.specs.Tails.{known_blocks}
use Rattle.journal_tail.specs.ObjectTails.{known_at, known_updates, is_missing, is_one_object, missing_blocks, IfMissing}
use Rattle.journal_tail.specs.Writes.{writes_block}
use Rattle.journal_tail.proofs.Fetched.{or_right}
use Rattle.journal_memory.specs.Causes.{CauseState}
use Rattle.journal_memory.specs.Fetches.{FetchedState}
use Rattle.journal_memory.specs.Volatiles.{VolatileState, usable}
use Rattle.journal_memory.proofs.Latest.{known_named}

-- ---- of blocks and updates

-- what holds of each block that updates are of
pub all_of_map : (P : ℕ → Type 0) (us : List Update) → All P (map (λ u. u.block) us) → All (λ u. P u.block) us
all_of_map P [] all = λ k d lt. absurd (omega (arith, lt))
all_of_map P (u ∷ us) all =
    All-cons (λ (v : Update). P v.block) u us (All-head P u.block (map (λ (v : Update). v.block) us) all)
    (all_of_map P us (All-tail P u.block (map (λ (v : Update). v.block) us) all))

named_more : (u : Update) (us : List Update) (bs : List ℕ) → All (λ b. updates_block us b ≡ true) bs → All (λ b. updates_block (u ∷ us) b ≡ true) bs
named_more u us bs all = λ k d lt. or_right _ _ (all k d lt)

pub named_all : (us : List Update) → All (λ b. updates_block us b ≡ true) (map (λ u. u.block) us)
named_all [] = λ k d lt. absurd (omega (arith, lt))
named_all (u ∷ us) =
    All-cons (λ b. updates_block (u ∷ us) b ≡ true) u.block (map (λ (v : Update). v.block) us)
    (ap (λ (t : Bool). t || updates_block us u.block) (eq-eqb u.block u.block refl))
    (named_more u us (map (λ (v : Update). v.block) us) (named_all us))

-- ---- of the blocks that memory lacks

all_cond : (P : ℕ → Type 0) (c : Bool) (b : ℕ) (bs : List ℕ) → All P (cond c (b ∷ bs) bs) → All P bs
all_cond P true b bs all = All-tail P b bs all
all_cond P false b bs all = all

module _ (n : Shape) (fetched known : List Update) where
  gone : (o f u : Bool) → ((o && not u) ≡ true → f ≡ true) → (o && not (f || u)) ≡ false
  gone false f u has = refl
  gone true true u has = refl
  gone true false true has = refl
  gone true false false has = absurd (false≢true (has refl))

  found_here : (b : ℕ) → (is_missing n known b ≡ true → updates_block fetched b ≡ true) → is_missing n (fetched ++ known) b ≡ false
  found_here b has =
      ap (λ (t : Bool). not (is_one_object (kind_of n b)) && not t) (updates_block-append fetched known b)
      ∙ gone (not (is_one_object (kind_of n b))) (updates_block fetched b) (updates_block known b) has

  skipped : (m t : Bool) (b : ℕ) (bs : List ℕ) → (t ≡ false → m ≡ false) → bs ≡ [] → cond (m && not t) (b ∷ bs) bs ≡ []
  skipped true true b bs found is = is
  skipped false t b bs found is = is
  skipped true false b bs found is = absurd (false≢true (sym (found refl)))

  -- with all of them fetched, none is lacking
  pub none_left : (ws : List Pair) → All (λ b. updates_block fetched b ≡ true) (missing_blocks n known ws) → missing_blocks n (fetched ++ known) ws ≡ []
  none_left [] all = refl
  none_left (p ∷ later) all =
      skipped (is_missing n (fetched ++ known) p.0.block) (writes_block later p.0.block) p.0.block (missing_blocks n (fetched ++ known) later)
      (λ unwritten. found_here p.0.block (λ missing. first missing unwritten))
      (none_left later (all_cond (λ b. updates_block fetched b ≡ true) (is_missing n known p.0.block && not (writes_block later p.0.block)) p.0.block (missing_blocks n known later) all))
    where
      first : is_missing n known p.0.block ≡ true → writes_block later p.0.block ≡ false → updates_block fetched p.0.block ≡ true
      first missing unwritten =
          All-head (λ b. updates_block fetched b ≡ true) p.0.block (missing_blocks n known later)
          (subst (λ (c : Bool). All (λ b. updates_block fetched b ≡ true) (cond c (p.0.block ∷ missing_blocks n known later) (missing_blocks n known later)))
          (λ i. missing i && not (unwritten i)) all)

-- each of them lies on the disk
module _ (n : Shape) (known : List Update) where
  below_cond : (c : Bool) (b : ℕ) (bs : List ℕ) → b < n.blocks → All (λ k. k < n.blocks) bs → All (λ k. k < n.blocks) (cond c (b ∷ bs) bs)
  below_cond true b bs lt all = All-cons (λ k. k < n.blocks) b bs lt all
  below_cond false b bs lt all = all

  pub missing_below : (ws : List Pair) → IsTrue (are_objects n ws) → All (λ b. b < n.blocks) (missing_blocks n known ws)
  missing_below [] objects = λ k d lt. absurd (omega (arith, lt))
  missing_below (p ∷ later) objects =
      let parts = and_parts (is_object n p) (are_objects n later) objects in
      let own = and_parts (is_valid n p.0) (is_value_at (kind_of n p.0.block) p.1) parts.0 in
      below_cond (is_missing n known p.0.block && not (writes_block later p.0.block)) p.0.block (missing_blocks n known later) (valid_block n p.0 own.0).1
      (missing_below later parts.1)

-- what is fetched names the blocks, so none is lacking
pub fetched_all : (n : Shape) (fetched known : List Update) (blocks : List ℕ) (ws : List Pair) → map (λ u. u.block) fetched ≡ blocks
    → blocks ≡ missing_blocks n known ws → missing_blocks n (fetched ++ known) ws ≡ []
fetched_all n fetched known blocks ws named is =
    none_left n fetched known ws (subst (All (λ b. updates_block fetched b ≡ true)) (named ∙ is) (named_all fetched))

-- of what was fetched since memory was trimmed, all is
pub all_usable : (v : VolatileState) (f : FetchedState) → v.tail.trimmed ≤ f.commits → usable v f ≡ f.updates
all_usable v f le = ap (λ (b : Bool). cond b f.updates []) (le-leb v.tail.trimmed f.commits le)

-- a block that was fetched is known
pub fetched_known : (layout : Shape) (v : VolatileState) (f : FetchedState) (a : Addr) → v.tail.trimmed ≤ f.commits → map (λ u. u.block) f.updates ≡ a.block ∷ []
    → known_at layout (usable v f) v.tail a ≡ None → ⊥
fetched_known layout v f a fresh named none =
    some_not (sym (known_named layout (known_updates f.updates v.tail) a there)
    ∙ ap (λ (us : List Update). known_at layout us v.tail a) (sym (all_usable v f fresh)) ∙ none)
  where
    here : updates_block f.updates a.block ≡ true
    here = All-head (λ b. updates_block f.updates b ≡ true) a.block [] (subst (All (λ b. updates_block f.updates b ≡ true)) named (named_all f.updates))

    there : updates_block (known_updates f.updates v.tail) a.block ≡ true
    there = updates_block-append f.updates (known_blocks v.tail) a.block ∙ ap (λ (t : Bool). t || updates_block (known_blocks v.tail) a.block) here

    some_not : {x : Value} → Some x ≡ None → ⊥
    some_not {x} is = none-some x (sym is)

-- what is still to be fetched for writes lies on the disk
pub answered_below : (n : Shape) → (known : List Update) (ws : List Pair) → IsTrue (are_objects n ws) → (answer : Result Preparation (Refusal CauseState))
    → IfOk answer (IfMissing (λ blocks. blocks ≡ missing_blocks n known ws)) → IfOk answer (IfMissing (λ blocks. All (λ b. b < n.blocks) blocks))
answered_below n known ws objects (Err why) is = tt
answered_below n known ws objects (Ok (Ready prepared)) is = tt
answered_below n known ws objects (Ok (Missing blocks)) is = subst (All (λ b. b < n.blocks)) (sym is) (missing_below n known ws objects)
