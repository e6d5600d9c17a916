-- The program's words.
use Rattle.std.proofs.Common.{◌≡◌, ℕ, ◌<◌, ◌≤◌, ◌^◌, List, [], ◌∷◌, length, get_or, sym, ap, subst, ◌∙◌, arith, map}
use Rattle.std.specs.Prelude.{codes}
use Rattle.std.specs.Fmt.{decimal}
use Rattle.journal_command.specs.Asks.{AsksScript, AsksFormat, AsksServe, AsksMirror}

-- a list of two, by its elements
pub two_items : {A : Type 0} (f : A → List ℕ) (xs : List A) (a b : A) → 2 ≤ length xs → length xs < 3 → a ≡ get_or xs 0 a → b ≡ get_or xs 1 b → map f xs ≡ f a ∷ f b ∷ []
two_items f [] a b low high e g = absurd (omega arith)
two_items f (x ∷ []) a b low high e g = absurd (omega arith)
two_items f (x ∷ y ∷ []) a b low high e g = ap (λ z. f z ∷ f y ∷ []) (sym e) ∙ ap (λ z. f a ∷ f z ∷ []) (sym g)
two_items f (x ∷ y ∷ z ∷ xs) a b low high e g = absurd (omega arith)

-- of three, and of four
pub three_items : {A : Type 0} (f : A → List ℕ) (xs : List A) (a b c : A) → 3 ≤ length xs → length xs < 4 → a ≡ get_or xs 0 a → b ≡ get_or xs 1 b → c ≡ get_or xs 2 c
    → map f xs ≡ f a ∷ f b ∷ f c ∷ []
three_items f (x ∷ y ∷ z ∷ []) a b c low high e g h = ap (λ t. f t ∷ f y ∷ f z ∷ []) (sym e) ∙ ap (λ t. f a ∷ f t ∷ f z ∷ []) (sym g) ∙ ap (λ t. f a ∷ f b ∷ f t ∷ []) (sym h)
three_items f [] a b c low high e g h = absurd (omega arith)
three_items f (x ∷ []) a b c low high e g h = absurd (omega arith)
three_items f (x ∷ y ∷ []) a b c low high e g h = absurd (omega arith)
three_items f (x ∷ y ∷ z ∷ w ∷ xs) a b c low high e g h = absurd (omega arith)

pub four_items : {A : Type 0} (f : A → List ℕ) (xs : List A) (a b c d : A) → 4 ≤ length xs → length xs < 5 → a ≡ get_or xs 0 a → b ≡ get_or xs 1 b → c ≡ get_or xs 2 c → d ≡ get_or xs 3 d
    → map f xs ≡ f a ∷ f b ∷ f c ∷ f d ∷ []
four_items f (x ∷ y ∷ z ∷ w ∷ []) a b c d low high e g h i =
    ap (λ t. f t ∷ f y ∷ f z ∷ f w ∷ []) (sym e) ∙ ap (λ t. f a ∷ f t ∷ f z ∷ f w ∷ []) (sym g) ∙ ap (λ t. f a ∷ f b ∷ f t ∷ f w ∷ []) (sym h) ∙ ap (λ t. f a ∷ f b ∷ f c ∷ f t ∷ []) (sym i)
four_items f [] a b c d low high e g h i = absurd (omega arith)
four_items f (x ∷ []) a b c d low high e g h i = absurd (omega arith)
four_items f (x ∷ y ∷ []) a b c d low high e g h i = absurd (omega arith)
four_items f (x ∷ y ∷ z ∷ []) a b c d low high e g h i = absurd (omega arith)
four_items f (x ∷ y ∷ z ∷ w ∷ v ∷ xs) a b c d low high e g h i = absurd (omega arith)

pub five_items : {A : Type 0} (f : A → List ℕ) (xs : List A) (a b c d e : A) → 5 ≤ length xs → length xs < 6 → a ≡ get_or xs 0 a → b ≡ get_or xs 1 b → c ≡ get_or xs 2 c → d ≡ get_or xs 3 d → e ≡ get_or xs 4 e
    → map f xs ≡ f a ∷ f b ∷ f c ∷ f d ∷ f e ∷ []
five_items f (x ∷ y ∷ z ∷ w ∷ v ∷ []) a b c d e low high is_a is_b is_c is_d is_e =
    ap (λ t. f t ∷ f y ∷ f z ∷ f w ∷ f v ∷ []) (sym is_a) ∙ ap (λ t. f a ∷ f t ∷ f z ∷ f w ∷ f v ∷ []) (sym is_b) ∙ ap (λ t. f a ∷ f b ∷ f t ∷ f w ∷ f v ∷ []) (sym is_c)
    ∙ ap (λ t. f a ∷ f b ∷ f c ∷ f t ∷ f v ∷ []) (sym is_d) ∙ ap (λ t. f a ∷ f b ∷ f c ∷ f d ∷ f t ∷ []) (sym is_e)
five_items f [] a b c d e low high is_a is_b is_c is_d is_e = absurd (omega arith)
five_items f (x ∷ []) a b c d e low high is_a is_b is_c is_d is_e = absurd (omega arith)
five_items f (x ∷ y ∷ []) a b c d e low high is_a is_b is_c is_d is_e = absurd (omega arith)
five_items f (x ∷ y ∷ z ∷ []) a b c d e low high is_a is_b is_c is_d is_e = absurd (omega arith)
five_items f (x ∷ y ∷ z ∷ w ∷ []) a b c d e low high is_a is_b is_c is_d is_e = absurd (omega arith)
five_items f (x ∷ y ∷ z ∷ w ∷ v ∷ u ∷ xs) a b c d e low high is_a is_b is_c is_d is_e = absurd (omega arith)

-- words that are so ask for a script, a disk in a file, or a service
pub Asks-script : (ws : List (List ℕ)) (text : List ℕ) (number n : ℕ) → ws ≡ codes "script" ∷ text ∷ [] → (number < 2 ^ 32) × (text ≡ decimal number) → n ≡ number → AsksScript ws n
Asks-script ws text number n e said is = subst (AsksScript ws) (sym is) (said.0, e ∙ ap (λ t. codes "script" ∷ t ∷ []) said.1)

pub Asks-format : (ws : List (List ℕ)) (path text : List ℕ) (number n : ℕ) → ws ≡ codes "format" ∷ path ∷ text ∷ [] → (number < 2 ^ 32) × (text ≡ decimal number) → n ≡ number → AsksFormat ws path n
Asks-format ws path text number n e said is = subst (AsksFormat ws path) (sym is) (said.0, e ∙ ap (λ t. codes "format" ∷ path ∷ t ∷ []) said.1)

pub Asks-serve : (ws : List (List ℕ)) (path first : List ℕ) (port : ℕ) (text : List ℕ) (number n : ℕ) → ws ≡ codes "serve" ∷ path ∷ first ∷ text ∷ [] → (port < 2 ^ 16) × (first ≡ decimal port)
    → (number < 2 ^ 32) × (text ≡ decimal number) → n ≡ number → AsksServe ws path port n
Asks-serve ws path first port text number n e there said is =
    subst (AsksServe ws path port) (sym is) (there.0, said.0, e ∙ ap (λ t. codes "serve" ∷ path ∷ t ∷ text ∷ []) there.1 ∙ ap (λ t. codes "serve" ∷ path ∷ decimal port ∷ t ∷ []) said.1)

pub Asks-mirror : (ws : List (List ℕ)) (path first : List ℕ) (port : ℕ) (text : List ℕ) (number n : ℕ) → ws ≡ codes "serve" ∷ path ∷ first ∷ text ∷ codes "mirror" ∷ [] → (port < 2 ^ 16) × (first ≡ decimal port)
    → (number < 2 ^ 32) × (text ≡ decimal number) → n ≡ number → AsksMirror ws path port n
Asks-mirror ws path first port text number n e there said is =
    subst (AsksMirror ws path port) (sym is) (there.0, said.0, e ∙ ap (λ t. codes "serve" ∷ path ∷ t ∷ text ∷ codes "mirror" ∷ []) there.1 ∙ ap (λ t. codes "serve" ∷ path ∷ decimal port ∷ t ∷ codes "mirror" ∷ []) said.1)
