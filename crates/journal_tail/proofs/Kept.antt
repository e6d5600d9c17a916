-- Copies of blocks, as the cache has them.
use Rattle.std.proofs.Common.{◌≡◌, ◌-◌, ◌||◌, ℕ, Bor, IfSome, option_copied, zero, suc, nat_eq, Bool, true, false, cond, List, [], ◌∷◌, ◌++◌, take, Option, Some, None, is_some, unwrap_or, IsSome, Result, Ok, Err, OnOk, OnErr, IsOk, append_assoc, refl, sym, ap, subst, ◌∙◌}
use Rattle.std.specs.Option.{option_map_or}
use Rattle.std.specs.Cmp.{nat_eq_equiv}
use Rattle.std.specs.Map.{keys_of, lookup, lookup_entry, remove_entry}
use Rattle.std.specs.List.{AllByRecursion, IsDistinct}
use Rattle.std.proofs.lemmas.Bool.{false≢true, eqb-true}
use Rattle.lru.specs.LruCache.{LruCache, lru_cache, promoted, demoted, put_entries}
use Rattle.lru.proofs.CallerLemmas.{Contains-lookup_entry}
use Rattle.journal_block.specs.declared.update.Update.{Update}
use Rattle.journal_block.specs.Block.{Bytes}
use Rattle.journal_block.specs.Updates.{updated, updates_block}
use Rattle.journal_block.specs.UpdateLaws.{updated-append, updated-named, updated-unnamed}
use Rattle.journal_memlog.specs.Laws.{updates_block-append}
use Rattle.journal_tail.specs.CachedUpdates.{cached_updates}
use Rattle.journal_tail.specs.Tails.{MakeTheSame, MakesNoOther}

-- ---- what they have of a block

or_true : (x : Bool) → (x || true) ≡ true
or_true true = refl
or_true false = refl

or_false : (x : Bool) → (x || false) ≡ x
or_false true = refl
or_false false = refl

pub home_named : (es : List (ℕ × Bytes)) (b : ℕ) → updates_block (cached_updates es) b ≡ is_some (lookup (nat_eq b) es)
home_named [] b = refl
home_named (e ∷ es) b = by (nat_eq b e.0) refl (home_named es b)
  where
    before : Bool
    before = updates_block (cached_updates es) b

    by : (here : Bool) → nat_eq b e.0 ≡ here → updates_block (cached_updates es) b ≡ is_some (lookup (nat_eq b) es)
        → updates_block (cached_updates (e ∷ es)) b ≡ is_some (cond (nat_eq b e.0) (Some e.1) (lookup (nat_eq b) es))
    by true is rest =
        updates_block-append (cached_updates es) (record { block = e.0; bytes = e.1 } ∷ []) b
        ∙ ap (λ (t : Bool). before || (t || false)) (nat_eq_equiv.symm e.0 b ∙ is)
        ∙ or_true before
        ∙ sym (ap (λ (t : Bool). is_some (cond t (Some e.1) (lookup (nat_eq b) es))) is)
    by false is rest =
        updates_block-append (cached_updates es) (record { block = e.0; bytes = e.1 } ∷ []) b
        ∙ ap (λ (t : Bool). before || (t || false)) (nat_eq_equiv.symm e.0 b ∙ is)
        ∙ or_false before
        ∙ rest
        ∙ sym (ap (λ (t : Bool). is_some (cond t (Some e.1) (lookup (nat_eq b) es))) is)

pub home_value : (es : List (ℕ × Bytes)) (b : ℕ) (x : Bytes) → updated (cached_updates es) b x ≡ unwrap_or (lookup (nat_eq b) es) x
home_value [] b x = refl
home_value (e ∷ es) b x = by (nat_eq b e.0) refl (home_value es b x)
  where
    by : (here : Bool) → nat_eq b e.0 ≡ here → updated (cached_updates es) b x ≡ unwrap_or (lookup (nat_eq b) es) x
        → updated (cached_updates (e ∷ es)) b x ≡ unwrap_or (cond (nat_eq b e.0) (Some e.1) (lookup (nat_eq b) es)) x
    by true is rest =
        updated-append (cached_updates es) (record { block = e.0; bytes = e.1 } ∷ []) b x
        ∙ ap (λ (t : Bool). cond t e.1 (updated (cached_updates es) b x)) (nat_eq_equiv.symm e.0 b ∙ is)
        ∙ sym (ap (λ (t : Bool). unwrap_or (cond t (Some e.1) (lookup (nat_eq b) es)) x) is)
    by false is rest =
        updated-append (cached_updates es) (record { block = e.0; bytes = e.1 } ∷ []) b x
        ∙ ap (λ (t : Bool). cond t e.1 (updated (cached_updates es) b x)) (nat_eq_equiv.symm e.0 b ∙ is)
        ∙ rest
        ∙ sym (ap (λ (t : Bool). unwrap_or (cond t (Some e.1) (lookup (nat_eq b) es)) x) is)

-- what is found of a block
pub home_found : (es : List (ℕ × Bytes)) (b : ℕ) (v : Bytes) → lookup (nat_eq b) es ≡ Some v → (x : Bytes) → updated (cached_updates es) b x ≡ v
home_found es b v is x = home_value es b x ∙ ap (λ (o : Option Bytes). unwrap_or o x) is

-- entries that have the same of each block
pub home_alike : (es fs : List (ℕ × Bytes)) → ((b : ℕ) → lookup (nat_eq b) es ≡ lookup (nat_eq b) fs) → MakeTheSame (cached_updates es) (cached_updates fs)
home_alike es fs same = record {
  blocks = λ b. home_named es b ∙ ap (λ (o : Option Bytes). is_some o) (same b) ∙ sym (home_named fs b);
  content = λ b x. home_value es b x ∙ ap (λ (o : Option Bytes). unwrap_or o x) (same b) ∙ sym (home_value fs b x);
}

-- entries that have no more than others
pub home_no_other : (es fs : List (ℕ × Bytes)) → ((b : ℕ) (w : Bytes) → lookup (nat_eq b) fs ≡ Some w → lookup (nat_eq b) es ≡ Some w)
    → MakesNoOther (cached_updates es) (cached_updates fs)
home_no_other es fs fewer = record {
  blocks = λ b named. by_named b (lookup (nat_eq b) fs) refl named;
  content = λ b x named. by_content b x (lookup (nat_eq b) fs) refl named;
}
  where
    by_named : (b : ℕ) (o : Option Bytes) → lookup (nat_eq b) fs ≡ o → updates_block (cached_updates fs) b ≡ true → updates_block (cached_updates es) b ≡ true
    by_named b None is named = absurd (false≢true (sym (home_named fs b ∙ ap (λ (o : Option Bytes). is_some o) is) ∙ named))
    by_named b (Some w) is named = home_named es b ∙ ap (λ (o : Option Bytes). is_some o) (fewer b w is)

    by_content : (b : ℕ) (x : Bytes) (o : Option Bytes) → lookup (nat_eq b) fs ≡ o → updates_block (cached_updates fs) b ≡ true
        → updated (cached_updates fs) b x ≡ updated (cached_updates es) b x
    by_content b x None is named = absurd (false≢true (sym (home_named fs b ∙ ap (λ (o : Option Bytes). is_some o) is) ∙ named))
    by_content b x (Some w) is named = home_found fs b w is x ∙ sym (home_found es b w (fewer b w is) x)

-- ---- what the cache's calls make of the entries

module _ (k b : ℕ) where
  -- an entry of another block goes
  pub removed_other : (es : List (ℕ × Bytes)) → nat_eq b k ≡ false → lookup (nat_eq b) (remove_entry (nat_eq k) es) ≡ lookup (nat_eq b) es
  removed_other [] other = refl
  removed_other (e ∷ es) other = by (nat_eq k e.0) refl (removed_other es other)
    where
      by : (here : Bool) → nat_eq k e.0 ≡ here → lookup (nat_eq b) (remove_entry (nat_eq k) es) ≡ lookup (nat_eq b) es
          → lookup (nat_eq b) (cond (nat_eq k e.0) es (e ∷ remove_entry (nat_eq k) es)) ≡ cond (nat_eq b e.0) (Some e.1) (lookup (nat_eq b) es)
      by true is rest =
          let apart : nat_eq b e.0 ≡ false = ap (nat_eq b) (sym (eqb-true k e.0 is)) ∙ other in
          ap (λ (t : Bool). lookup (nat_eq b) (cond t es (e ∷ remove_entry (nat_eq k) es))) is
          ∙ sym (ap (λ (t : Bool). cond t (Some e.1) (lookup (nat_eq b) es)) apart)
      by false is rest =
          ap (λ (t : Bool). lookup (nat_eq b) (cond t es (e ∷ remove_entry (nat_eq k) es))) is
          ∙ ap (λ (o : Option Bytes). cond (nat_eq b e.0) (Some e.1) o) rest

  -- the entry that is found first
  pub lookup_first : (es : List (ℕ × Bytes)) (f : ℕ × Bytes) → lookup_entry (nat_eq k) es ≡ Some f → lookup (nat_eq k) es ≡ Some f.1
  lookup_first [] f is = let impossible : ⊥ = cc in absurd impossible
  lookup_first (e ∷ es) f is = by (nat_eq k e.0) refl (lookup_first es f)
    where
      by : (here : Bool) → nat_eq k e.0 ≡ here → (lookup_entry (nat_eq k) es ≡ Some f → lookup (nat_eq k) es ≡ Some f.1)
          → cond (nat_eq k e.0) (Some e.1) (lookup (nat_eq k) es) ≡ Some f.1
      by true here rest =
          let same : Some e ≡ Some f = sym (ap (λ (t : Bool). cond t (Some e) (lookup_entry (nat_eq k) es)) here) ∙ is in
          ap (λ (t : Bool). cond t (Some e.1) (lookup (nat_eq k) es)) here ∙ ap (λ (o : Option (ℕ × Bytes)). option_map_or (λ g. Some g.1) o None) same
      by false here rest =
          ap (λ (t : Bool). cond t (Some e.1) (lookup (nat_eq k) es)) here
          ∙ rest (sym (ap (λ (t : Bool). cond t (Some e) (lookup_entry (nat_eq k) es)) here) ∙ is)

-- the entry of a block goes first, with this content
first_entry : (es : List (ℕ × Bytes)) (k : ℕ) (f : ℕ × Bytes) (v : Bytes) → lookup_entry (nat_eq k) es ≡ Some f → (b : ℕ)
    → lookup (nat_eq b) ((f.0, v) ∷ remove_entry (nat_eq k) es) ≡ lookup (nat_eq b) ((k, v) ∷ es)
first_entry es k f v is b =
    ap (λ (j : ℕ). lookup (nat_eq b) ((j, v) ∷ remove_entry (nat_eq k) es)) (sym (eqb-true k f.0 (Contains-lookup_entry (nat_eq k) es f is).1)) ∙ by (nat_eq b k) refl
  where
    by : (here : Bool) → nat_eq b k ≡ here
        → cond (nat_eq b k) (Some v) (lookup (nat_eq b) (remove_entry (nat_eq k) es)) ≡ cond (nat_eq b k) (Some v) (lookup (nat_eq b) es)
    by true here = ap (λ (t : Bool). cond t (Some v) (lookup (nat_eq b) (remove_entry (nat_eq k) es))) here ∙ sym (ap (λ (t : Bool). cond t (Some v) (lookup (nat_eq b) es)) here)
    by false here = ap (λ (o : Option Bytes). cond (nat_eq b k) (Some v) o) (removed_other k b es here)

-- the block's own content is there already
again : (es : List (ℕ × Bytes)) (k : ℕ) (v : Bytes) → lookup (nat_eq k) es ≡ Some v → (b : ℕ) → lookup (nat_eq b) ((k, v) ∷ es) ≡ lookup (nat_eq b) es
again es k v there b = by (nat_eq b k) refl
  where
    by : (here : Bool) → nat_eq b k ≡ here → cond (nat_eq b k) (Some v) (lookup (nat_eq b) es) ≡ lookup (nat_eq b) es
    by true here = ap (λ (t : Bool). cond t (Some v) (lookup (nat_eq b) es)) here ∙ sym (ap (λ (j : ℕ). lookup (nat_eq j) es) (eqb-true b k here) ∙ there)
    by false here = ap (λ (t : Bool). cond t (Some v) (lookup (nat_eq b) es)) here

pub promoted_alike : (es : List (ℕ × Bytes)) (k b : ℕ) → lookup (nat_eq b) (promoted (nat_eq k) es) ≡ lookup (nat_eq b) es
promoted_alike es k b = by (lookup_entry (nat_eq k) es) refl
  where
    by : (o : Option (ℕ × Bytes)) → lookup_entry (nat_eq k) es ≡ o
        → lookup (nat_eq b) (option_map_or (λ f. f ∷ remove_entry (nat_eq k) es) (lookup_entry (nat_eq k) es) es) ≡ lookup (nat_eq b) es
    by None is = ap (λ (o : Option (ℕ × Bytes)). lookup (nat_eq b) (option_map_or (λ f. f ∷ remove_entry (nat_eq k) es) o es)) is
    by (Some f) is =
        ap (λ (o : Option (ℕ × Bytes)). lookup (nat_eq b) (option_map_or (λ f. f ∷ remove_entry (nat_eq k) es) o es)) is
        ∙ first_entry es k f f.1 is b
        ∙ again es k f.1 (lookup_first k b es f is) b

-- ---- an entry goes last

-- a key that is apart from all is not found
none_apart : (es : List (ℕ × Bytes)) (k : ℕ) → AllByRecursion (λ j. nat_eq k j ≡ false) (keys_of es) → lookup (nat_eq k) es ≡ None
none_apart [] k apart = refl
none_apart (e ∷ es) k apart = ap (λ (t : Bool). cond t (Some e.1) (lookup (nat_eq k) es)) apart.0 ∙ none_apart es k apart.1

-- where no key comes twice, a key that was removed is gone
removed_gone : (es : List (ℕ × Bytes)) (k : ℕ) → IsDistinct nat_eq (keys_of es) → lookup (nat_eq k) (remove_entry (nat_eq k) es) ≡ None
unfolding IsDistinct
removed_gone [] k distinct = refl
removed_gone (e ∷ es) k distinct = by (nat_eq k e.0) refl (removed_gone es k distinct.1)
  where
    by : (here : Bool) → nat_eq k e.0 ≡ here → lookup (nat_eq k) (remove_entry (nat_eq k) es) ≡ None
        → lookup (nat_eq k) (cond (nat_eq k e.0) es (e ∷ remove_entry (nat_eq k) es)) ≡ None
    by true is rest =
        ap (λ (t : Bool). lookup (nat_eq k) (cond t es (e ∷ remove_entry (nat_eq k) es))) is
        ∙ none_apart es k (subst (λ (j : ℕ). AllByRecursion (λ i. nat_eq j i ≡ false) (keys_of es)) (sym (eqb-true k e.0 is)) distinct.0)
    by false is rest =
        ap (λ (t : Bool). lookup (nat_eq k) (cond t es (e ∷ remove_entry (nat_eq k) es))) is
        ∙ ap (λ (t : Bool). cond t (Some e.1) (lookup (nat_eq k) (remove_entry (nat_eq k) es))) is ∙ rest

-- an entry behind others is found where none of them is
behind_gone : (es : List (ℕ × Bytes)) (f : ℕ × Bytes) (b : ℕ) → lookup (nat_eq b) es ≡ None → lookup (nat_eq b) (es ++ f ∷ []) ≡ cond (nat_eq b f.0) (Some f.1) None
behind_gone [] f b none = refl
behind_gone (e ∷ es) f b none = by (nat_eq b e.0) refl (behind_gone es f b)
  where
    by : (here : Bool) → nat_eq b e.0 ≡ here → (lookup (nat_eq b) es ≡ None → lookup (nat_eq b) (es ++ f ∷ []) ≡ cond (nat_eq b f.0) (Some f.1) None)
        → cond (nat_eq b e.0) (Some e.1) (lookup (nat_eq b) (es ++ f ∷ [])) ≡ cond (nat_eq b f.0) (Some f.1) None
    by true is rest =
        let found : Some e.1 ≡ None = sym (ap (λ (t : Bool). cond t (Some e.1) (lookup (nat_eq b) es)) is) ∙ none in
        let impossible : ⊥ = cc in absurd impossible
    by false is rest =
        ap (λ (t : Bool). cond t (Some e.1) (lookup (nat_eq b) (es ++ f ∷ []))) is
        ∙ rest (sym (ap (λ (t : Bool). cond t (Some e.1) (lookup (nat_eq b) es)) is) ∙ none)

-- and changes nothing of another block
behind_other : (es : List (ℕ × Bytes)) (f : ℕ × Bytes) (b : ℕ) → nat_eq b f.0 ≡ false → lookup (nat_eq b) (es ++ f ∷ []) ≡ lookup (nat_eq b) es
behind_other [] f b other = ap (λ (t : Bool). cond t (Some f.1) None) other
behind_other (e ∷ es) f b other = ap (λ (o : Option Bytes). cond (nat_eq b e.0) (Some e.1) o) (behind_other es f b other)

pub demoted_alike : (es : List (ℕ × Bytes)) (k b : ℕ) → IsDistinct nat_eq (keys_of es) → lookup (nat_eq b) (demoted (nat_eq k) es) ≡ lookup (nat_eq b) es
demoted_alike es k b distinct = by (lookup_entry (nat_eq k) es) refl
  where
    last : (f : ℕ × Bytes) → lookup_entry (nat_eq k) es ≡ Some f → (here : Bool) → nat_eq b k ≡ here
        → lookup (nat_eq b) (remove_entry (nat_eq k) es ++ f ∷ []) ≡ lookup (nat_eq b) es
    last f is true here =
        let same : b ≡ k = eqb-true b k here in
        let found : k ≡ f.0 = eqb-true k f.0 (Contains-lookup_entry (nat_eq k) es f is).1 in
        ap (λ (j : ℕ). lookup (nat_eq j) (remove_entry (nat_eq k) es ++ f ∷ [])) same
        ∙ behind_gone (remove_entry (nat_eq k) es) f k (removed_gone es k distinct)
        ∙ ap (λ (t : Bool). cond t (Some f.1) None) (Contains-lookup_entry (nat_eq k) es f is).1
        ∙ sym (lookup_first k k es f is)
        ∙ ap (λ (j : ℕ). lookup (nat_eq j) es) (sym same)
    last f is false here =
        let found : k ≡ f.0 = eqb-true k f.0 (Contains-lookup_entry (nat_eq k) es f is).1 in
        behind_other (remove_entry (nat_eq k) es) f b (ap (nat_eq b) (sym found) ∙ here)
        ∙ removed_other k b es here

    by : (o : Option (ℕ × Bytes)) → lookup_entry (nat_eq k) es ≡ o
        → lookup (nat_eq b) (option_map_or (λ f. remove_entry (nat_eq k) es ++ f ∷ []) (lookup_entry (nat_eq k) es) es) ≡ lookup (nat_eq b) es
    by None is = ap (λ (o : Option (ℕ × Bytes)). lookup (nat_eq b) (option_map_or (λ f. remove_entry (nat_eq k) es ++ f ∷ []) o es)) is
    by (Some f) is =
        ap (λ (o : Option (ℕ × Bytes)). lookup (nat_eq b) (option_map_or (λ f. remove_entry (nat_eq k) es ++ f ∷ []) o es)) is
        ∙ last f is (nat_eq b k) refl

taken : (n : ℕ) (es : List (ℕ × Bytes)) (b : ℕ) (w : Bytes) → lookup (nat_eq b) (take n es) ≡ Some w → lookup (nat_eq b) es ≡ Some w
taken zero es b w is = let impossible : ⊥ = cc in absurd impossible
taken (suc n) [] b w is = is
taken (suc n) (e ∷ es) b w is = by (nat_eq b e.0) refl (taken n es b w)
  where
    by : (here : Bool) → nat_eq b e.0 ≡ here → (lookup (nat_eq b) (take n es) ≡ Some w → lookup (nat_eq b) es ≡ Some w)
        → cond (nat_eq b e.0) (Some e.1) (lookup (nat_eq b) es) ≡ Some w
    by true here rest =
        ap (λ (t : Bool). cond t (Some e.1) (lookup (nat_eq b) es)) here
        ∙ (sym (ap (λ (t : Bool). cond t (Some e.1) (lookup (nat_eq b) (take n es))) here) ∙ is)
    by false here rest =
        ap (λ (t : Bool). cond t (Some e.1) (lookup (nat_eq b) es)) here
        ∙ rest (sym (ap (λ (t : Bool). cond t (Some e.1) (lookup (nat_eq b) (take n es))) here) ∙ is)

not_there : (k : ℕ) (es : List (ℕ × Bytes)) → lookup_entry (nat_eq k) es ≡ None → lookup (nat_eq k) es ≡ None
not_there k [] none = refl
not_there k (e ∷ es) none = by (nat_eq k e.0) refl (not_there k es)
  where
    by : (here : Bool) → nat_eq k e.0 ≡ here → (lookup_entry (nat_eq k) es ≡ None → lookup (nat_eq k) es ≡ None)
        → cond (nat_eq k e.0) (Some e.1) (lookup (nat_eq k) es) ≡ None
    by true here rest =
        let wrong : Some e ≡ None = sym (ap (λ (t : Bool). cond t (Some e) (lookup_entry (nat_eq k) es)) here) ∙ none in
        let impossible : ⊥ = cc in absurd impossible
    by false here rest =
        ap (λ (t : Bool). cond t (Some e.1) (lookup (nat_eq k) es)) here
        ∙ rest (sym (ap (λ (t : Bool). cond t (Some e) (lookup_entry (nat_eq k) es)) here) ∙ none)

module _ (c : LruCache ℕ Bytes) (k : ℕ) (v : Bytes) where
  abbrev after : Option (ℕ × Bytes) → List (ℕ × Bytes)
  after o = option_map_or (λ e. (e.0, v) ∷ remove_entry (nat_eq k) c.entries) o ((k, v) ∷ take (c.cap - 1) c.entries)

  -- what was put, and no more than was there beside it
  put_no_other : (b : ℕ) (w : Bytes) → lookup (nat_eq b) (put_entries nat_eq c k v) ≡ Some w → lookup (nat_eq b) ((k, v) ∷ c.entries) ≡ Some w
  put_no_other b w is = by (lookup_entry (nat_eq k) c.entries) refl
    where
      fresh : (here : Bool) → nat_eq b k ≡ here → cond (nat_eq b k) (Some v) (lookup (nat_eq b) (take (c.cap - 1) c.entries)) ≡ Some w
          → cond (nat_eq b k) (Some v) (lookup (nat_eq b) c.entries) ≡ Some w
      fresh true here found =
          ap (λ (t : Bool). cond t (Some v) (lookup (nat_eq b) c.entries)) here
          ∙ (sym (ap (λ (t : Bool). cond t (Some v) (lookup (nat_eq b) (take (c.cap - 1) c.entries))) here) ∙ found)
      fresh false here found =
          ap (λ (t : Bool). cond t (Some v) (lookup (nat_eq b) c.entries)) here
          ∙ taken (c.cap - 1) c.entries b w (sym (ap (λ (t : Bool). cond t (Some v) (lookup (nat_eq b) (take (c.cap - 1) c.entries))) here) ∙ found)

      by : (o : Option (ℕ × Bytes)) → lookup_entry (nat_eq k) c.entries ≡ o → lookup (nat_eq b) ((k, v) ∷ c.entries) ≡ Some w
      by None none = fresh (nat_eq b k) refl (sym (ap (λ o. lookup (nat_eq b) (after o)) none) ∙ is)
      by (Some f) some = sym (first_entry c.entries k f v some b) ∙ (sym (ap (λ o. lookup (nat_eq b) (after o)) some) ∙ is)

  -- a block that was there already
  pub put_there : updates_block (cached_updates c.entries) k ≡ true → MakeTheSame (cached_updates (put_entries nat_eq c k v)) (cached_updates ((k, v) ∷ c.entries))
  put_there there = home_alike (put_entries nat_eq c k v) ((k, v) ∷ c.entries) (λ b. by b (lookup_entry (nat_eq k) c.entries) refl)
    where
      named : is_some (lookup (nat_eq k) c.entries) ≡ true
      named = sym (home_named c.entries k) ∙ there

      by : (b : ℕ) (o : Option (ℕ × Bytes)) → lookup_entry (nat_eq k) c.entries ≡ o
          → lookup (nat_eq b) (put_entries nat_eq c k v) ≡ lookup (nat_eq b) ((k, v) ∷ c.entries)
      by b None none = absurd (false≢true (sym (ap (λ (o : Option Bytes). is_some o) (not_there k c.entries none)) ∙ named))
      by b (Some f) some = ap (λ o. lookup (nat_eq b) (after o)) some ∙ first_entry c.entries k f v some b

  -- nothing was put of a block that was not there
  pub left_out : updates_block (cached_updates c.entries) k ≡ false → MakesNoOther (cached_updates ((k, v) ∷ c.entries)) (cached_updates c.entries)
  left_out out = home_no_other ((k, v) ∷ c.entries) c.entries (λ b w is. by b w is (nat_eq b k) refl)
    where
      by : (b : ℕ) (w : Bytes) → lookup (nat_eq b) c.entries ≡ Some w → (here : Bool) → nat_eq b k ≡ here → cond (nat_eq b k) (Some v) (lookup (nat_eq b) c.entries) ≡ Some w
      by b w is true here =
          let some : updates_block (cached_updates c.entries) k ≡ true =
          home_named c.entries k ∙ ap (λ (o : Option Bytes). is_some o) (ap (λ (j : ℕ). lookup (nat_eq j) c.entries) (sym (eqb-true b k here)) ∙ is) in
          absurd (false≢true (sym out ∙ some))
      by b w is false here = ap (λ (t : Bool). cond t (Some v) (lookup (nat_eq b) c.entries)) here ∙ is

  -- of a block that was there nothing is refused
  pub put_made : updates_block (cached_updates c.entries) k ≡ true → {A E : Type 0} (new : LruCache ℕ Bytes) (result : Result A E)
      → OnOk result (new ≡ lru_cache (put_entries nat_eq c k v) c.cap) → (IsSome (lookup (nat_eq k) c.entries) → IsOk result)
      → MakeTheSame (cached_updates new.entries) (cached_updates ((k, v) ∷ c.entries))
  put_made there new (Ok value) ok succeeds =
      subst (λ (d : LruCache ℕ Bytes). MakeTheSame (cached_updates d.entries) (cached_updates ((k, v) ∷ c.entries))) (sym ok) (put_there there)
  put_made there new (Err error) ok succeeds = absurd (false≢true (succeeds (sym (home_named c.entries k) ∙ there)))

  -- whether it was put or refused
  pub put_kept : {A E : Type 0} (new : LruCache ℕ Bytes) (result : Result A E) → OnOk result (new ≡ lru_cache (put_entries nat_eq c k v) c.cap)
      → OnErr result (new ≡ c) → (IsSome (lookup (nat_eq k) c.entries) → IsOk result)
      → MakesNoOther (cached_updates ((k, v) ∷ c.entries)) (cached_updates new.entries)
  put_kept new (Ok value) ok err succeeds =
      subst (λ (d : LruCache ℕ Bytes). MakesNoOther (cached_updates ((k, v) ∷ c.entries)) (cached_updates d.entries)) (sym ok)
      (home_no_other ((k, v) ∷ c.entries) (put_entries nat_eq c k v) put_no_other)
  put_kept new (Err error) ok err succeeds =
      subst (λ (d : LruCache ℕ Bytes). MakesNoOther (cached_updates ((k, v) ∷ c.entries)) (cached_updates d.entries)) (sym err)
      (left_out (home_named c.entries k ∙ by (lookup (nat_eq k) c.entries) refl))
    where
      by : (o : Option Bytes) → lookup (nat_eq k) c.entries ≡ o → is_some (lookup (nat_eq k) c.entries) ≡ false
      by None is = ap (λ (o : Option Bytes). is_some o) is
      by (Some w) is = absurd (false≢true (succeeds (subst (λ (o : Option Bytes). IsSome o) (sym is) refl)))

-- ---- more updates, and others

-- updates behind both
pub no_other_behind : (earlier later more : List Update) → MakesNoOther earlier later → MakesNoOther (earlier ++ more) (later ++ more)
no_other_behind earlier later more fewer = record {
  blocks = λ b named. updates_block-append earlier more b ∙ by_named b (updates_block more b) refl (sym (updates_block-append later more b) ∙ named);
  content = λ b x named. updated-append later more b x ∙ by_content b x (updates_block more b) refl (sym (updates_block-append later more b) ∙ named) ∙ sym (updated-append earlier more b x);
}
  where
    of : (b : ℕ) → updates_block more b ≡ false → (updates_block later b || updates_block more b) ≡ true → updates_block later b ≡ true
    of b is named = sym (ap (λ (t : Bool). updates_block later b || t) is ∙ or_false (updates_block later b)) ∙ named

    by_named : (b : ℕ) (t : Bool) → updates_block more b ≡ t → (updates_block later b || updates_block more b) ≡ true → (updates_block earlier b || updates_block more b) ≡ true
    by_named b true is named = ap (λ (t : Bool). updates_block earlier b || t) is ∙ or_true (updates_block earlier b)
    by_named b false is named = ap (λ (t : Bool). t || updates_block more b) (fewer.blocks b (of b is named))

    by_content : (b : ℕ) (x : Bytes) (t : Bool) → updates_block more b ≡ t → (updates_block later b || updates_block more b) ≡ true
        → updated more b (updated later b x) ≡ updated more b (updated earlier b x)
    by_content b x true is named = updated-named more b (updated later b x) (updated earlier b x) is
    by_content b x false is named = ap (updated more b) (fewer.content b x (of b is named))

pub no_other_then : (first second third : List Update) → MakesNoOther first second → MakesNoOther second third → MakesNoOther first third
no_other_then first second third fewer more = record {
  blocks = λ b named. fewer.blocks b (more.blocks b named);
  content = λ b x named. more.content b x named ∙ fewer.content b x (more.blocks b named);
}

-- updates that make the same as others make no other
pub same_no_other : (first second : List Update) → MakeTheSame second first → MakesNoOther first second
same_no_other first second same = record { blocks = λ b named. sym (same.blocks b) ∙ named; content = λ b x named. same.content b x }

pub no_other_same : (us : List Update) → MakesNoOther us us
no_other_same us = record { blocks = λ b named. named; content = λ b x named. refl }

-- the first of some updates goes into what is before it
pub home_first : (start home more : List Update) (updates : List Update) (u : Update) (left : List Update) → MakesNoOther start (home ++ updates)
    → updates ≡ u ∷ left → MakesNoOther (home ++ u ∷ []) more → MakesNoOther start (more ++ left)
home_first start home more updates u left fewer first kept =
    no_other_then start (home ++ updates) (more ++ left) fewer
    (subst (λ (us : List Update). MakesNoOther us (more ++ left)) (append_assoc home (u ∷ []) left ∙ ap (λ (us : List Update). home ++ us) (sym first))
    (no_other_behind (home ++ u ∷ []) more left kept))

-- the copies and the updates
module _ (home us : List Update) (b : ℕ) where
  pub home_later : true ≡ updates_block us b → true ≡ updates_block (home ++ us) b
  home_later named = sym (updates_block-append home us b ∙ ap (λ (t : Bool). updates_block home b || t) (sym named) ∙ or_true (updates_block home b))

  pub home_later_value : (v : Bytes) → ((x : Bytes) → updated us b x ≡ v) → (x : Bytes) → updated (home ++ us) b x ≡ v
  home_later_value v is x = updated-append home us b x ∙ is (updated home b x)

  pub home_before : updates_block us b ≡ false → updates_block (home ++ us) b ≡ updates_block home b
  home_before unnamed = updates_block-append home us b ∙ ap (λ (t : Bool). updates_block home b || t) unnamed ∙ or_false (updates_block home b)

  pub home_before_value : updates_block us b ≡ false → (o : Option (Bor Bytes)) → IfSome o (λ found. (x : Bytes) → updated home b x ≡ found.now)
      → IfSome o (λ found. (x : Bytes) → updated (home ++ us) b x ≡ found.now)
  home_before_value unnamed None is = tt
  home_before_value unnamed (Some found) is = λ x. updated-append home us b x ∙ updated-unnamed us b (updated home b x) unnamed ∙ is x

-- ---- what is found

pub copied_some : {A : Type 0} (o : Option (Bor A)) → is_some (option_copied o) ≡ is_some o
copied_some None = refl
copied_some (Some found) = refl

pub copied_content : (es : List (ℕ × Bytes)) (b : ℕ) (o : Option (Bor Bytes)) → option_copied o ≡ lookup (nat_eq b) es
    → IfSome o (λ found. (x : Bytes) → updated (cached_updates es) b x ≡ found.now)
copied_content es b None is = tt
copied_content es b (Some found) is = home_found es b found.now (sym is)
