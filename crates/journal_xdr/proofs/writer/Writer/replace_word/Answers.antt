use Rattle.std.proofs.Common.{◌≡◌, List, ℕ, ◌++◌, ◌+◌, ◌-◌, ◌≤◌, length, take, drop, refl, sym, ap, ◌∙◌, append_assoc, arith}
use Rattle.std.specs.Int.{w32, to_be_bytes}
use Rattle.std.proofs.lemmas.List.{take_at, length-append, length-drop, length-take-le}
use borrow.Rule.Slice.PartMut.{Post-is, post_of}
use Rattle.journal_xdr.specs.Basic.{word}
use Rattle.journal_xdr.specs.BasicLaws.{length-word}
use Rattle.journal_xdr.proofs.writer.Writer.replace_word.Goals as goal

spelled : (n : ℕ) → to_be_bytes w32 n ≡ word.spelling n
unfolding word
spelled n = refl

pub returns : goal.returns
returns c =
    let d = c.deref_mut.result.now in
    let place = c.args.place in
    let number = word.spelling c.args.number in
    let old = c.args.self.now in
    let same : d ≡ old = c.deref_mut.ensures.value ∙ c.self.view_is in
    let fits : place + 4 ≤ length old = c.requires in
    let written : c.copy_from_slice.new.self ≡ number = c.copy_from_slice.ensures.after ∙ c.to_be_bytes.ensures ∙ spelled c.args.number in
    let after : post_of place (place + 4 - place) d ≡ drop (place + 4) d = Post-is place (place + 4) d (omega arith) in
    let whole : take place d ++ (c.copy_from_slice.new.self ++ post_of place (place + 4 - place) d) ≡ take place old ++ (number ++ drop (place + 4) old) =
    ap (λ (b : List ℕ). take place d ++ (b ++ post_of place (place + 4 - place) d)) written
    ∙ ap (λ (p : List ℕ). take place d ++ (number ++ p)) after
    ∙ ap (λ (b : List ℕ). take place b ++ (number ++ drop (place + 4) b)) same in
    let long : length (take place old ++ (number ++ drop (place + 4) old)) ≡ length old =
    omega (arith, fits, length-append (take place old) (number ++ drop (place + 4) old), length-append number (drop (place + 4) old), length-word c.args.number, length-take-le place old (omega (arith, fits)), length-drop (place + 4) old) in
    take_at _ _ _ (ap (λ (b : List ℕ). length b) whole ∙ long ∙ ap (λ (b : List ℕ). length b) (sym same) ∙ c.deref_mut.ensures.len) ∙ whole ∙ sym (append_assoc (take place old) number (drop (place + 4) old))
