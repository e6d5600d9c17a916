-- How long a reply is, and what becomes of the room for its record's header.
use Rattle.std.proofs.Common.{◌≡◌, ℕ, ◌+◌, ◌-◌, ◌*◌, ◌≤◌, ◌<◌, ◌^◌, List, [], ◌∷◌, ◌++◌, length, take, drop, refl, sym, ap, ◌∙◌, append_assoc, arith}
use Rattle.std.specs.Prelude.{Result, Ok, Err}
use Rattle.std.specs.Result.{ForOk}
use Rattle.std.proofs.lemmas.List.{length-append, take_at, drop_at}
use Rattle.journal_xdr.specs.Basic.{word}
use Rattle.journal_xdr.specs.BasicLaws.{length-word}
use Rattle.journal_rpc.specs.declared.replies.CallRefused.{CallRefused}
use Rattle.journal_rpc.specs.declared.replies.CallRefused.TheVariants.{RpcMismatch, ProgramUnavailable, ProgramMismatch, ProcedureUnavailable, GarbageArguments}
use Rattle.journal_rpc.specs.Replies.{words, why, one_fragment, denial, success, reply}

pub length-words : (ns : List ℕ) → length (words ns) ≡ 4 * length ns
length-words [] = refl
length-words (n ∷ ns) = omega (arith, length-append (word.spelling n) (words ns), length-word n, length-words ns)

why_short : (r : CallRefused) → length (why r) ≤ 7
why_short RpcMismatch = omega arith
why_short ProgramUnavailable = omega arith
why_short (ProgramMismatch version) = omega arith
why_short ProcedureUnavailable = omega arith
why_short GarbageArguments = omega arith

reply_short : {R : Type 0} (spelling : R → List ℕ) (xid : ℕ) (outcome : Result R CallRefused) → ForOk outcome (λ results. length (spelling results) < 2 ^ 30) → length (reply spelling xid outcome) < 2 ^ 31
reply_short spelling xid (Ok results) short =
    omega (arith, length-append (success xid) (spelling results), length-words (xid ∷ 1 ∷ 0 ∷ 0 ∷ 0 ∷ 0 ∷ []), short results refl)
reply_short spelling xid (Err refusal) short = omega (arith, length-words (xid ∷ why refusal), why_short refusal)

-- Behind what was written before, the buffer holds the room for the header, and then the reply. It
-- is then short, and with the header in the room it is the record
pub record Holds (old buffer message : List ℕ) : Type 0 where
  pub long : length buffer ≡ length old + (4 + length message)
  pub short : length message < 2 ^ 31
  pub whole : (n : ℕ) → n ≡ 2 ^ 31 + (length buffer - length old - 4) → take (length old) buffer ++ word.spelling n ++ drop (length old + 4) buffer ≡ old ++ one_fragment message

pub holds : {R : Type 0} (spelling : R → List ℕ) (xid : ℕ) (outcome : Result R CallRefused) (old room buffer : List ℕ) → ForOk outcome (λ results. length (spelling results) < 2 ^ 30)
    → room ≡ old ++ word.spelling 0 → buffer ≡ room ++ reply spelling xid outcome → Holds old buffer (reply spelling xid outcome)
holds spelling xid outcome old room buffer fits is e =
    let message = reply spelling xid outcome in
    let text : buffer ≡ (old ++ word.spelling 0) ++ message = e ∙ ap (λ (r : List ℕ). r ++ message) is in
    let nested : buffer ≡ old ++ (word.spelling 0 ++ message) = text ∙ append_assoc old (word.spelling 0) message in
    let behind : length (old ++ word.spelling 0) ≡ length old + 4 = omega (arith, length-append old (word.spelling 0), length-word 0) in
    let long : length buffer ≡ length old + (4 + length message) = ap (λ (r : List ℕ). length r) text ∙ omega (arith, length-append (old ++ word.spelling 0) message, behind) in
    record {
      long = long;
      short = reply_short spelling xid outcome fits;
      whole = λ n size.
          let same : n ≡ 2 ^ 31 + length message = size ∙ omega (arith, long) in
          ap (λ (r : List ℕ). (r ++ word.spelling n) ++ drop (length old + 4) buffer) (ap (take (length old)) nested ∙ take_at old (word.spelling 0 ++ message) (length old) refl)
          ∙ ap (λ (r : List ℕ). (old ++ word.spelling n) ++ r) (ap (drop (length old + 4)) text ∙ drop_at (old ++ word.spelling 0) message (length old + 4) behind)
          ∙ append_assoc old (word.spelling n) message
          ∙ ap (λ (k : ℕ). old ++ (word.spelling k ++ message)) same;
    }

-- a denial behind the header of its record
pub denies : (xid : ℕ) (old room buffer : List ℕ) → room ≡ old ++ word.spelling (2 ^ 31 + 20) → buffer ≡ room ++ denial xid → buffer ≡ old ++ one_fragment (denial xid)
denies xid old room buffer is e =
    let long : length (denial xid) ≡ 20 = length-words (xid ∷ 1 ∷ 1 ∷ 1 ∷ 1 ∷ []) in
    e ∙ ap (λ (r : List ℕ). r ++ denial xid) is ∙ append_assoc old (word.spelling (2 ^ 31 + 20)) (denial xid)
    ∙ ap (λ (n : ℕ). old ++ (word.spelling (2 ^ 31 + n) ++ denial xid)) (sym long)
