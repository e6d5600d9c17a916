-- Bytes that are written in part.
use Rattle.std.proofs.Common.{◌≡◌, ℕ, List, ◌++◌, ap, ◌∙◌, append_assoc}
use Rattle.journal_xdr.specs.Basic.{word, hyper}
use Rattle.journal_nfs3_wire.specs.Arguments.{time}
use Rattle.journal_nfs3_wire.specs.Results.{Fattr, fattr}

-- some bytes stand behind the ones before
abbrev pub Extends : List ℕ → List ℕ → Type 0
Extends old new = (front : List ℕ) × (new ≡ old ++ front)

pub then_extends : (a b c : List ℕ) → Extends a b → Extends b c → Extends a c
then_extends a b c p q = (p.0 ++ q.0, q.1 ∙ ap (λ (t : List ℕ). t ++ q.0) p.1 ∙ append_assoc a p.0 q.0)

-- so do those of eleven writes, one after another
pub eleven_extend : (s0 s1 s2 s3 s4 s5 s6 s7 s8 s9 s10 s11 : List ℕ) → Extends s0 s1 → Extends s1 s2 → Extends s2 s3 → Extends s3 s4 → Extends s4 s5 → Extends s5 s6 → Extends s6 s7 → Extends s7 s8 → Extends s8 s9 → Extends s9 s10 → Extends s10 s11 → Extends s0 s11
eleven_extend s0 s1 s2 s3 s4 s5 s6 s7 s8 s9 s10 s11 e0 e1 e2 e3 e4 e5 e6 e7 e8 e9 e10 =
    then_extends s0 s10 s11 (then_extends s0 s9 s10 (then_extends s0 s8 s9 (then_extends s0 s7 s8 (then_extends s0 s6 s7 (then_extends s0 s5 s6 (then_extends s0 s4 s5 (then_extends s0 s3 s4 (then_extends s0 s2 s3 (then_extends s0 s1 s2 e0 e1) e2) e3) e4) e5) e6) e7) e8) e9) e10

-- Fourteen items behind some bytes are the attributes behind them
pub wrote_fattr : (f : Fattr) (s0 s1 s2 s3 s4 s5 s6 s7 s8 s9 s10 s11 s12 s13 s14 : List ℕ) → s1 ≡ s0 ++ word.spelling f.kind → s2 ≡ s1 ++ word.spelling f.mode → s3 ≡ s2 ++ word.spelling f.links → s4 ≡ s3 ++ word.spelling f.uid → s5 ≡ s4 ++ word.spelling f.gid → s6 ≡ s5 ++ hyper.spelling f.size → s7 ≡ s6 ++ hyper.spelling f.used → s8 ≡ s7 ++ word.spelling f.device.0 → s9 ≡ s8 ++ word.spelling f.device.1 → s10 ≡ s9 ++ hyper.spelling f.fsid → s11 ≡ s10 ++ hyper.spelling f.fileid → s12 ≡ s11 ++ time.spelling f.atime → s13 ≡ s12 ++ time.spelling f.mtime → s14 ≡ s13 ++ time.spelling f.ctime
    → s14 ≡ s0 ++ fattr.spelling f
unfolding fattr
wrote_fattr f s0 s1 s2 s3 s4 s5 s6 s7 s8 s9 s10 s11 s12 s13 s14 e0 e1 e2 e3 e4 e5 e6 e7 e8 e9 e10 e11 e12 e13 = rw (e13, e12, e11, e10, e9, e8, e7, e6, e5, e4, e3, e2, e1, e0) (simp append_assoc)
