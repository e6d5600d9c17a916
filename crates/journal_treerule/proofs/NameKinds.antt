-- What a name is, by tests of it.
use Rattle.std.proofs.Common.{◌≡◌, ℕ, ◌≤◌, Bool, true, false, cond, ◌&&◌, List, [], ◌∷◌, length, refl, sym, ap, ◌⊎◌, inl, inr, ◌∙◌, arith}
use Rattle.std.specs.Prelude.{◌↔◌, ◌==◌, nat_lt, IsTrue}
use Rattle.std.proofs.lemmas.Bool.{false≢true, ltb-false, le-ltb}
use Rattle.journal_tree.specs.declared.limits.TheConstants.{MOST_NAME}
use Rattle.journal_tree.specs.declared.name.NameKind.{NameKind}
use Rattle.journal_tree.specs.declared.name.NameKind.TheVariants.{Dot, DotDot, NoName, LongName, Name}
use Rattle.journal_tree.specs.Calls.{name_kind, other_name, has_zero_or_slash}
use Rattle.journal_treerule.specs.Parts.{is_dots}

-- no bytes, `.` and `..` are no names
pub no-name-dots : (name : List ℕ) → is_dots name ≡ true → name_kind name ≡ Name → ⊥
unfolding name_kind
no-name-dots [] dots is = absurd (cc is)
no-name-dots (a ∷ []) dots is = absurd (let e : Dot ≡ Name = sym (ap (λ b. cond b Dot (other_name (a ∷ []))) dots) ∙ is in cc)
no-name-dots (a ∷ b ∷ []) dots is = absurd (let e : DotDot ≡ Name = sym (ap (λ t. cond t DotDot (other_name (a ∷ b ∷ []))) dots) ∙ is in cc)
no-name-dots (a ∷ b ∷ c ∷ rest) dots is = absurd (false≢true dots)

-- other bytes are told apart by what they have
kind-other : (name : List ℕ) → is_dots name ≡ false → name_kind name ≡ other_name name
unfolding name_kind
kind-other [] dots = absurd (false≢true (sym dots))
kind-other (a ∷ []) dots = ap (λ b. cond b Dot (other_name (a ∷ []))) dots
kind-other (a ∷ b ∷ []) dots = ap (λ t. cond t DotDot (other_name (a ∷ b ∷ []))) dots
kind-other (a ∷ b ∷ c ∷ rest) dots = refl

pub no-name-bytes : (name : List ℕ) → is_dots name ≡ false → has_zero_or_slash name ≡ true → name_kind name ≡ Name → ⊥
no-name-bytes name dots bad is =
    let e : NoName ≡ Name = sym (ap (λ b. cond b NoName (cond (nat_lt MOST_NAME (length name)) LongName Name)) bad) ∙ sym (kind-other name dots) ∙ is in
    absurd (cc e)

pub name-by-length : (name : List ℕ) → is_dots name ≡ false → has_zero_or_slash name ≡ false → (length name ≤ MOST_NAME) ↔ (name_kind name ≡ Name)
name-by-length name dots good = (
  (λ short. by ∙ ap (λ b. cond b LongName Name) (le-ltb MOST_NAME (length name) short)),
  (λ is. short (nat_lt MOST_NAME (length name)) refl is),
)
  where
    by : name_kind name ≡ cond (nat_lt MOST_NAME (length name)) LongName Name
    by = kind-other name dots ∙ ap (λ b. cond b NoName (cond (nat_lt MOST_NAME (length name)) LongName Name)) good

    short : (long : Bool) → nat_lt MOST_NAME (length name) ≡ long → name_kind name ≡ Name → length name ≤ MOST_NAME
    short true long is = absurd (let e : LongName ≡ Name = sym (ap (λ b. cond b LongName Name) long) ∙ sym by ∙ is in cc)
    short false long is = ltb-false MOST_NAME (length name) long

pub name-decides : (name : List ℕ) (b : Bool) → is_dots name ≡ false → has_zero_or_slash name ≡ false → (IsTrue b ↔ (length name ≤ MOST_NAME)) → IsTrue b ↔ (name_kind name ≡ Name)
name-decides name b dots good test = (
  (λ yes. (name-by-length name dots good).0 (test.0 yes)),
  (λ is. test.1 ((name-by-length name dots good).1 is)),
)
