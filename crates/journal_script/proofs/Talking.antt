-- How what is read and printed adds up, line by line.
use Rattle.std.proofs.Common.{◌≡◌, ℕ, Bool, true, false, List, [], ◌∷◌, ◌++◌, Option, Some, None, refl, sym, ap, subst, ◌∙◌, append-nil}
use Rattle.std.specs.Prelude.{IfSome, ◌||◌}
use Rattle.std.specs.List.{AllByRecursion}
use Rattle.std.specs.Io.KnownBytes.{Keeps, Appends}
use Rattle.std.specs.Io.BufRead.{drop_through}
use Rattle.std.proofs.KnownBytes.{Appends-nil, Appends-trans}
use Rattle.std.proofs.lemmas.List.Concat.{flat_map-append}
use Rattle.journal_script.specs.declared.script.Next.{Next}
use Rattle.journal_script.specs.declared.script.Next.TheVariants as nexts
use Rattle.journal_command.specs.Lines.{TakesLine}
use Rattle.journal_script.specs.Transcripts.{Streams, Turn, IsTurn, printed, is_bad, some_bad, Consists, Talks, TakesOneLine, TakesLineOrEnd, AnswersLastLine, TalksToTheEnd, AsksOpening, ComesTo}

-- ---- lists of turns

turns_join : (ts us : List Turn) → AllByRecursion IsTurn ts → AllByRecursion IsTurn us → AllByRecursion IsTurn (ts ++ us)
turns_join [] us p q = q
turns_join (t ∷ ts) us p q = (p.0, turns_join ts us p.1 q)

consists_join : (xs : List ℕ) (ts us : List Turn) (ys zs : List ℕ) → Consists xs ts ys → Consists ys us zs → Consists xs (ts ++ us) zs
consists_join xs [] us ys zs p q = subst (λ l. Consists l us zs) p q
consists_join xs (t ∷ ts) us ys zs (some, line, rest) q = (some, line, consists_join (drop_through 10 xs) ts us ys zs rest q)

-- ---- bad lines

or_none : (a : Bool) → a ≡ (a || false)
or_none true = refl
or_none false = refl

bad_join : (a : Bool) (ts us : List Turn) → ((a || some_bad ts) || some_bad us) ≡ (a || some_bad (ts ++ us))
bad_join true ts us = refl
bad_join false [] us = refl
bad_join false (t ∷ ts) us = bad_join (is_bad t.answer) ts us

-- ---- nothing was read

pub talks_none : (a : Streams) → Talks a a
talks_none a = record { turns = []; answered = tt; read = by_case a.left refl; printed = Appends-nil a.held; bad = or_none a.bad }
  where
    by_case : (known : Option (List ℕ)) → a.left ≡ known → IfSome known (λ xs. (ys : List ℕ) × (a.left ≡ Some ys) × (ys ≡ xs))
    by_case None e = tt
    by_case (Some xs) e = (xs, e, refl)

-- ---- one after the other

read_join : (a b c : Option (List ℕ)) (ts us : List Turn) → IfSome a (λ xs. (ys : List ℕ) × (b ≡ Some ys) × Consists xs ts ys)
    → IfSome b (λ xs. (ys : List ℕ) × (c ≡ Some ys) × Consists xs us ys) → IfSome a (λ xs. (ys : List ℕ) × (c ≡ Some ys) × Consists xs (ts ++ us) ys)
read_join None b c ts us p q = tt
read_join (Some xs) None c ts us p q = cc p.1
read_join (Some xs) (Some ys) c ts us (mid, is, first) (zs, now, then_) =
    (zs, now, consists_join xs ts us ys zs (subst (λ l. Consists xs ts l) (cc is) first) then_)

pub talks_join : (a b c : Streams) → Talks a b → Talks b c → Talks a c
talks_join a b c p q = record {
  turns = p.turns ++ q.turns;
  answered = turns_join p.turns q.turns p.answered q.answered;
  read = read_join a.left b.left c.left p.turns q.turns p.read q.read;
  printed = subst (Appends a.held c.held) (sym (flat_map-append printed p.turns q.turns)) (Appends-trans a.held b.held c.held _ _ p.printed q.printed);
  bad = q.bad ∙ ap (λ t. t || some_bad q.turns) p.bad ∙ bad_join a.bad p.turns q.turns;
}

-- ---- one line

appended : (a b c : Option (List ℕ)) (bs : List ℕ) → Keeps a b → Appends b c bs → Appends a c bs
appended None b c bs k p = tt
appended (Some x) None c bs k p = absurd k
appended (Some x) (Some y) None bs k p = absurd p
appended (Some x) (Some y) (Some z) bs k p = p ∙ ap (λ l. l ++ bs) k

one_line : (known : Option (List ℕ)) (t : Turn) (left : Option (List ℕ)) → IfSome known (λ xs. TakesLine xs t.line left)
    → IfSome known (λ xs. (ys : List ℕ) × (left ≡ Some ys) × Consists xs (t ∷ []) ys)
one_line None t left p = tt
one_line (Some xs) t left p = (drop_through 10 xs, p.left, (p.some, p.line, refl))

-- a line was read, and then its answer printed
pub talks_line : (a b c : Streams) → TakesOneLine a b → AnswersLastLine b c → Talks a c
talks_line a b c asks answers =
    let turn : Turn = record { line = b.line; answer = answers.answer } in
    record {
      turns = turn ∷ [];
      answered = (answers.answered, tt);
      read = subst (λ (o : Option (List ℕ)). IfSome a.left (λ xs. (ys : List ℕ) × (o ≡ Some ys) × Consists xs (turn ∷ []) ys))
          (sym answers.prints.left) (one_line a.left turn b.left asks.read);
      printed = subst (Appends a.held c.held) (sym (append-nil _)) (appended a.held b.held c.held _ asks.quiet answers.prints.printed);
      bad = answers.prints.bad ∙ ap (λ t. t || is_bad answers.answer) asks.bad ∙ ap (λ t. a.bad || t) (or_none (is_bad answers.answer));
    }

-- it was read and answered behind others
pub talks_more : (a b c d : Streams) → Talks a b → TakesOneLine b c → AnswersLastLine c d → Talks a d
talks_more a b c d talks asks answers = talks_join a b d talks (talks_line b c d asks answers)

-- ---- the end

-- nothing was left to read
pub talks_end : (a b c : Streams) → Talks a b → TakesLineOrEnd b c false → TalksToTheEnd a c
talks_end a b c talks (none, quiet, same) = (talks_join a b c talks idle, by_case a.left b.left talks.read none)
  where
    idle_read : (known : Option (List ℕ)) → IfSome known (λ xs. (xs ≡ []) × (c.left ≡ Some [])) → IfSome known (λ xs. (ys : List ℕ) × (c.left ≡ Some ys) × (ys ≡ xs))
    idle_read None p = tt
    idle_read (Some xs) p = ([], p.1, sym p.0)

    idle_printed : (o p : Option (List ℕ)) → Keeps o p → Appends o p []
    idle_printed None p k = tt
    idle_printed (Some x) None k = absurd k
    idle_printed (Some x) (Some y) k = k ∙ sym (append-nil x)

    idle : Talks b c
    idle = record { turns = []; answered = tt; read = idle_read b.left none; printed = idle_printed b.held c.held quiet; bad = same ∙ or_none b.bad }

    by_case : (o p : Option (List ℕ)) → IfSome o (λ xs. (ys : List ℕ) × (p ≡ Some ys) × Consists xs talks.turns ys) → IfSome p (λ xs. (xs ≡ []) × (c.left ≡ Some []))
        → IfSome o (λ _. c.left ≡ Some [])
    by_case None p h k = tt
    by_case (Some xs) None h k = cc h.1
    by_case (Some xs) (Some ys) h k = k.1

end_join : (a b c : Streams) → Talks a b → TalksToTheEnd b c → TalksToTheEnd a c
end_join a b c p (q, end) = (talks_join a b c p q, by_case a.left b.left p.read end)
  where
    by_case : (o r : Option (List ℕ)) → IfSome o (λ xs. (ys : List ℕ) × (r ≡ Some ys) × Consists xs p.turns ys) → IfSome r (λ _. c.left ≡ Some []) → IfSome o (λ _. c.left ≡ Some [])
    by_case None r h k = tt
    by_case (Some xs) None h k = cc h.1
    by_case (Some xs) (Some ys) h k = k

-- ---- what comes next

opening_join : (a b c : Streams) → Talks a b → AsksOpening b c → AsksOpening a c
opening_join a b c p (mid, talks, asks, opens) = (mid, talks_join a b mid p talks, asks, opens)

pub leaves_join : (next : Next) (a b c : Streams) → Talks a b → ComesTo next b c → ComesTo next a c
leaves_join (nexts.Open disk) a b c p q = (q.0, opening_join a b c p q.1)
leaves_join (nexts.Down disk) a b c p q = (q.0, talks_join a b c p q.1)
leaves_join (nexts.Lost disk) a b c p q = (q.0, talks_join a b c p q.1)
leaves_join nexts.End a b c p q = end_join a b c p q

-- the line that opened the disk was answered
pub leaves_opened : (next : Next) (a b c d : Streams) → AsksOpening a b → AnswersLastLine b c → ComesTo next c d → ComesTo next a d
leaves_opened next a b c d (mid, talks, asks, opens) answers leaves =
    leaves_join next a c d (talks_more a mid b c talks asks answers) leaves
