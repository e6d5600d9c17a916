-- What a name is, by tests of it.
use Rattle.std.proofs.Common.{◌≡◌, ◌≤◌, ℕ, Bool, true, false, cond, ◌&&◌, List, length, arith, [], ◌∷◌, refl, sym, ap, ◌⊎◌, inl, inr, ◌∙◌}
use Rattle.std.specs.Prelude.{◌≢◌, ◌==◌, nat_lt}
use Rattle.std.proofs.lemmas.Bool.{cases_eq, ne_eqb, eq-eqb, ltb-false}
use Rattle.journal_tree.specs.declared.name.NameKind.TheVariants.{Dot, DotDot, NoName, LongName, Name}
use Rattle.journal_tree.specs.Calls.{name_kind, other_name, has_zero_or_slash}
use Rattle.journal_tree.specs.declared.limits.TheConstants.{MOST_NAME}

pub kind-dot : (name : List ℕ) → name ≡ 46 ∷ [] → Dot ≡ name_kind name
unfolding name_kind
kind-dot name is = ap name_kind (sym is)

pub kind-dots : (name : List ℕ) → name ≡ 46 ∷ 46 ∷ [] → DotDot ≡ name_kind name
unfolding name_kind
kind-dots name is = ap name_kind (sym is)

pub kind-none : (name : List ℕ) → name ≡ [] → NoName ≡ name_kind name
unfolding name_kind
kind-none name is = ap name_kind (sym is)

pub kind-other : (name : List ℕ) → name ≢ 46 ∷ [] → name ≢ 46 ∷ 46 ∷ [] → name ≢ [] → name_kind name ≡ other_name name
unfolding name_kind
kind-other [] dot dots some = absurd (some refl)
kind-other (a ∷ []) dot dots some = ap (λ b. cond b Dot (other_name (a ∷ []))) (ne_eqb a 46 (λ e. dot (ap (λ a. a ∷ []) e)))
kind-other (a ∷ b ∷ []) dot dots some = by (cases_eq a 46) (cases_eq b 46)
  where
    by : (a ≡ 46) ⊎ (a ≡ 46 → ⊥) → (b ≡ 46) ⊎ (b ≡ 46 → ⊥) → cond (a == 46 && b == 46) DotDot (other_name (a ∷ b ∷ [])) ≡ other_name (a ∷ b ∷ [])
    by (inr other) _ = ap (λ t. cond (t && b == 46) DotDot (other_name (a ∷ b ∷ []))) (ne_eqb a 46 other)
    by (inl same) (inr other) = ap (λ t. cond (t && b == 46) DotDot (other_name (a ∷ b ∷ []))) (eq-eqb a 46 same) ∙ ap (λ t. cond t DotDot (other_name (a ∷ b ∷ []))) (ne_eqb b 46 other)
    by (inl same) (inl also) = absurd (dots (ap (λ a. a ∷ b ∷ []) same ∙ ap (λ b. 46 ∷ b ∷ []) also))
kind-other (a ∷ b ∷ c ∷ rest) dot dots some = refl

-- a name has 255 bytes at most
other-short : (name : List ℕ) → other_name name ≡ Name → length name ≤ MOST_NAME
other-short name is = by (has_zero_or_slash name) (nat_lt MOST_NAME (length name)) refl is
  where
    by : (bad long : Bool) → nat_lt MOST_NAME (length name) ≡ long → cond bad NoName (cond long LongName Name) ≡ Name → length name ≤ MOST_NAME
    by true long same is = absurd (cc (is))
    by false true same is = absurd (cc (is))
    by false false same is = ltb-false MOST_NAME (length name) same

pub name-short : (name : List ℕ) → name_kind name ≡ Name → length name ≤ MOST_NAME
unfolding name_kind
name-short [] is = absurd (cc (is))
name-short (a ∷ []) is = omega arith
name-short (a ∷ b ∷ []) is = omega arith
name-short (a ∷ b ∷ c ∷ rest) is = other-short (a ∷ b ∷ c ∷ rest) is
