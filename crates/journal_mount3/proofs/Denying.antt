-- Replies where files are only read.
use Rattle.std.proofs.Common.{◌≡◌, ℕ, ◌<◌, ◌^◌, ◌++◌, Bool, true, false, List, length, Result, Ok, Err, refl, sym, ap, subst, arith}
use Rattle.std.specs.Prelude.{MatchBool}
use Rattle.std.proofs.lemmas.List.{length-append}
use Rattle.journal_world.specs.Histories.{Entry}
use Rattle.journal_history.specs.Tokens.{SessionState}
use Rattle.journal_xdr.specs.Basic.{word, boolean}
use Rattle.journal_xdr.specs.BasicLaws.{length-word, length-boolean}
use Rattle.journal_inode.specs.declared.node.Time.{Time}
use Rattle.journal_inode.specs.declared.version.FormatVersion.{FormatVersion}
use Rattle.journal_rpc.specs.declared.replies.CallRefused.{CallRefused}
use Rattle.journal_rpc.specs.Calls.{Message}
use Rattle.journal_nfs3_wire.specs.Queries.{Access}
use Rattle.journal_nfs3.specs.Served.{Standing, marked, HasNoWait}
use Rattle.journal_mount3.specs.Calls.{Requested, query, asks}
use Rattle.journal_mount3.specs.Answers.{Comes, AnswersBoth, sent_text}
use Rattle.journal_mount3.specs.Readers.{is_denied, denied_text, reading_of, IsDenied, ComesToReader, AnswersReader, GrantsReader}

pub denied_short : length denied_text < 2 ^ 30
denied_short =
    let status = word.spelling 30 in
    let none = boolean.spelling false in
    omega (arith, length-append (status ++ none) none, length-append status none, length-word 30, length-boolean false)

module _ (version : FormatVersion) (blocks : ℕ) (verifier : List ℕ) (now : Time) (call : Message) (old new : SessionState) where
  abbrev Outcome : Bool → Standing → Result (List ℕ) CallRefused → Type 0
  Outcome denied standing outcome = MatchBool denied (IsDenied standing old outcome new) (Comes version blocks standing verifier now (reading_of (asks call.asked)) old outcome new)

  -- a call that asks to change files
  pub denies : (standing : Standing) (text : List ℕ) → is_denied (asks call.asked) ≡ true → new ≡ old → HasNoWait standing → text ≡ sent_text call.xid (Ok denied_text)
      → AnswersReader version blocks verifier standing now call old new text
  denies standing text denied same none is = record {
    outcome = Ok denied_text;
    comes = subst (λ (d : Bool). Outcome d standing (Ok denied_text)) (sym denied) (refl, same, none);
    is_sent = is;
  }

  -- one of ACCESS
  pub grants : (standing : Standing) (text granted : List ℕ) (handle : List ℕ) (rights : ℕ) → Ok (query (Access handle rights)) ≡ asks call.asked → HasNoWait standing
      → GrantsReader version blocks now handle rights old granted new → text ≡ sent_text call.xid (Ok granted) → AnswersReader version blocks verifier standing now call old new text
  grants standing text granted handle rights access none h is = record {
    outcome = Ok granted;
    comes = subst (λ (r : Result Requested CallRefused). ComesToReader version blocks standing verifier now r old (Ok granted) new) access (h.0, h.1, ap Ok h.2, none);
    is_sent = is;
  }

  -- any other
  pub reads : (standing : Standing) (text : List ℕ) → is_denied (asks call.asked) ≡ false → reading_of (asks call.asked) ≡ asks call.asked → AnswersBoth version blocks verifier standing now call old new text
      → AnswersReader version blocks verifier standing now call old new text
  reads standing text denied other a = record {
    outcome = a.outcome;
    comes =
        subst (λ (d : Bool). Outcome d standing a.outcome) (sym denied)
        (subst (λ (r : Result Requested CallRefused). Comes version blocks standing verifier now r old a.outcome new) (sym other) a.comes);
    is_sent = a.is_sent;
  }

  -- the same where the reply is lost
  pub loses_denied : is_denied (asks call.asked) ≡ true → new ≡ old → (history : List Entry) → (text : List ℕ) × AnswersReader version blocks verifier (marked history) now call old new text
  loses_denied denied same history = (sent_text call.xid (Ok denied_text), denies (marked history) _ denied same tt refl)

  pub loses_granted : (granted handle : List ℕ) (rights : ℕ) → Ok (query (Access handle rights)) ≡ asks call.asked → GrantsReader version blocks now handle rights old granted new
      → (history : List Entry) → (text : List ℕ) × AnswersReader version blocks verifier (marked history) now call old new text
  loses_granted granted handle rights access h history = (sent_text call.xid (Ok granted), grants (marked history) _ granted handle rights access tt h refl)

  pub loses_read : is_denied (asks call.asked) ≡ false → reading_of (asks call.asked) ≡ asks call.asked
      → ((history : List Entry) → (text : List ℕ) × AnswersBoth version blocks verifier (marked history) now call old new text)
      → (history : List Entry) → (text : List ℕ) × AnswersReader version blocks verifier (marked history) now call old new text
  loses_read denied other lost history = let one = lost history in (one.0, reads (marked history) one.0 denied other one.1)
