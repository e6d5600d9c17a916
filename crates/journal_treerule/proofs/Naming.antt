-- A set of names.
use Rattle.std.proofs.Common.{ℕ, ◌≡◌, ◌||◌, Bool, true, false, List, [], ◌∷◌, map, refl, sym, ap, ◌∙◌}
use Rattle.std.specs.Prelude.{◌↔◌, IsTrue, bytes_eq}
use Rattle.std.proofs.lemmas.Bool.{false≢true}
use Rattle.std.specs.List.{list_any}
use Rattle.std.specs.Ordering.{nat_cmp, is_eq, match_ordering}
use Rattle.std.specs.Cmp.Lexicographic.{slice_cmp}
use Rattle.std.specs.BTreeMap.{is_at}
use Rattle.std.specs.BTreeSet.{insert_key}
use Rattle.std.specs.declared.cmp.Ordering.{Ordering}
use Rattle.std.specs.declared.cmp.Ordering.TheVariants.{Less, Equal, Greater}
use Rattle.std.proofs.lemmas.Cmp.{nat_list_eq_equiv}
use Rattle.std.proofs.lemmas.Map.Text.{is_eq-slice_cmp}
use Rattle.std.proofs.lemmas.Slice.Eq.{bytes_eq-Decides}
use Rattle.journal_treerule.specs.Directories.{has_name}

module _ {K : Type 0} (text : K → List ℕ) where
  abbrev by_text : K → K → Ordering
  by_text x y = slice_cmp nat_cmp (text x) (text y)

  -- whether a key is in the set is whether its name is
  pub has-key : (ks : List K) (k : K) → has_name (map text ks) (text k) ≡ list_any (is_at (by_text k)) ks
  has-key [] k = refl
  has-key (x ∷ xs) k =
      ap (λ b. b || has_name (map text xs) (text k)) (nat_list_eq_equiv.symm (text x) (text k) ∙ sym (is_eq-slice_cmp (text k) (text x)))
      ∙ ap (λ b. is_eq (by_text k x) || b) (has-key xs k)

  or_again : (b r : Bool) → (b || r) ≡ (b || (b || r))
  or_again true r = refl
  or_again false r = refl

  or_swap : (a b r : Bool) → (a || (b || r)) ≡ (b || (a || r))
  or_swap true true r = refl
  or_swap true false r = refl
  or_swap false true r = refl
  or_swap false false r = refl

  -- a key that is put into the set adds its name
  pub has-insert : (ks : List K) (k : K) (other : List ℕ) → has_name (map text (insert_key by_text ks k)) other ≡ (bytes_eq (text k) other || has_name (map text ks) other)
  has-insert [] k other = refl
  has-insert (x ∷ xs) k other = by (by_text k x) refl (has-insert xs k other)
    where
      r : Bool
      r = has_name (map text xs) other

      by : (o : Ordering) → by_text k x ≡ o → has_name (map text (insert_key by_text xs k)) other ≡ (bytes_eq (text k) other || r) → has_name (map text (insert_key by_text (x ∷ xs) k)) other ≡ (bytes_eq (text k) other || (bytes_eq (text x) other || r))
      by Less is rest = ap (λ o. has_name (map text (match_ordering o (k ∷ x ∷ xs) (x ∷ xs) (x ∷ insert_key by_text xs k))) other) is
      by Equal is rest =
          ap (λ o. has_name (map text (match_ordering o (k ∷ x ∷ xs) (x ∷ xs) (x ∷ insert_key by_text xs k))) other) is
          ∙ or_again (bytes_eq (text x) other) r
          ∙ ap (λ t. bytes_eq t other || (bytes_eq (text x) other || r)) (sym same)
        where
          same : text k ≡ text x
          same = (bytes_eq-Decides (text k) (text x)).0 (sym (is_eq-slice_cmp (text k) (text x)) ∙ ap is_eq is)
      by Greater is rest =
          ap (λ o. has_name (map text (match_ordering o (k ∷ x ∷ xs) (x ∷ xs) (x ∷ insert_key by_text xs k))) other) is
          ∙ ap (λ b. bytes_eq (text x) other || b) rest
          ∙ or_swap (bytes_eq (text x) other) (bytes_eq (text k) other) r

  -- a name of the set is that of a key
  key-of : (ks : List K) (name : List ℕ) → has_name (map text ks) name ≡ true → (k : K) × (text k ≡ name)
  key-of [] name has = absurd (false≢true has)
  key-of (x ∷ xs) name has = by (bytes_eq (text x) name) refl (key-of xs name)
    where
      by : (b : Bool) → bytes_eq (text x) name ≡ b → (has_name (map text xs) name ≡ true → (k : K) × (text k ≡ name)) → (k : K) × (text k ≡ name)
      by true is rest = (x, (bytes_eq-Decides (text x) name).0 is)
      by false is rest = rest (sym (ap (λ b. b || has_name (map text xs) name) is) ∙ has)

  -- the keys of a set are keys of another where its names are
  pub subset-names : (ks js : List K) (b : Bool) → (IsTrue b ↔ ((q : K) → IsTrue (list_any (is_at (by_text q)) ks) → IsTrue (list_any (is_at (by_text q)) js)))
      → IsTrue b ↔ ((name : List ℕ) → has_name (map text ks) name ≡ true → has_name (map text js) name ≡ true)
  subset-names ks js b test = (
    (λ yes name has.
        let k = key-of ks name has in
        ap (has_name (map text js)) (sym k.1) ∙ has-key js k.0 ∙ test.0 yes k.0 (sym (has-key ks k.0) ∙ ap (has_name (map text ks)) k.1 ∙ has)),
    (λ all. test.1 (λ q has. sym (has-key js q) ∙ all (text q) (has-key ks q ∙ has))),
  )
