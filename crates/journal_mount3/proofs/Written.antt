-- Results as they are written, one item behind another.
use Rattle.std.proofs.Common.{◌≡◌, ℕ, ◌-◌, List, ◌++◌, Some, None, Ok, append_assoc}
use Rattle.journal_xdr.specs.Items.{Writes}
use Rattle.journal_xdr.specs.Basic.{word, hyper}
use Rattle.journal_inode.specs.Versions.{most_bytes}
use Rattle.journal_inode.specs.declared.version.FormatVersion.{FormatVersion}
use Rattle.journal_file_types.specs.declared.reply.Attributes.{Attributes}
use Rattle.journal_nfs3_wire.specs.Arguments.{time}
use Rattle.journal_nfs3_wire.specs.Results.{status, post_op_attributes}
use Rattle.journal_nfs3_wire.specs.Profile.{fattr_of}
use Rattle.journal_mount3.specs.declared.results.SpaceUse.{SpaceUse}
use Rattle.journal_nfs3_wire.specs.QueryResults.{status_results, information_results}
use Rattle.journal_mount3.specs.Results.{told}
use Rattle.journal_mount3.specs.Served.{information_of}
use Rattle.journal_mount3.specs.CodeViews.{status_seen}

pub wrote_use : (version : FormatVersion) (s : SpaceUse) (free files : ℕ) (s0 s1 s2 s3 s4 s5 s6 s7 s8 s9 : List ℕ) → free ≡ s.bytes - s.used → files ≡ 510 - s.files → s1 ≡ s0 ++ status.spelling None
    → s2 ≡ s1 ++ post_op_attributes.spelling (Some (fattr_of version s.attributes)) → s3 ≡ s2 ++ hyper.spelling s.bytes → s4 ≡ s3 ++ hyper.spelling free → s5 ≡ s4 ++ hyper.spelling free
    → s6 ≡ s5 ++ hyper.spelling 510 → s7 ≡ s6 ++ hyper.spelling files → s8 ≡ s7 ++ hyper.spelling files → s9 ≡ s8 ++ word.spelling 0 → Writes (told status_results) (Ok (status_seen version s)) s0 s9
unfolding status_results
wrote_use version s free files s0 s1 s2 s3 s4 s5 s6 s7 s8 s9 free_is files_is e1 e2 e3 e4 e5 e6 e7 e8 e9 = rw (e9, e8, e7, e6, e5, e4, e3, e2, e1, free_is, files_is) (simp append_assoc)

pub wrote_information : (version : FormatVersion) (a : Attributes) (most : ℕ) (s0 s1 s2 s3 s4 s5 s6 s7 s8 s9 s10 s11 s12 : List ℕ) → most ≡ most_bytes version → s1 ≡ s0 ++ status.spelling None
    → s2 ≡ s1 ++ post_op_attributes.spelling (Some (fattr_of version a)) → s3 ≡ s2 ++ word.spelling 8192 → s4 ≡ s3 ++ word.spelling 8192 → s5 ≡ s4 ++ word.spelling 1 → s6 ≡ s5 ++ word.spelling 8192
    → s7 ≡ s6 ++ word.spelling 8192 → s8 ≡ s7 ++ word.spelling 4096 → s9 ≡ s8 ++ word.spelling 8192 → s10 ≡ s9 ++ hyper.spelling most → s11 ≡ s10 ++ time.spelling (record { secs = 0; nanos = 1 }) → s12 ≡ s11 ++ word.spelling 24
    → Writes (told information_results) (Ok (information_of version a)) s0 s12
unfolding information_results
wrote_information version a most s0 s1 s2 s3 s4 s5 s6 s7 s8 s9 s10 s11 s12 most_is e1 e2 e3 e4 e5 e6 e7 e8 e9 e10 e11 e12 = rw (e12, e11, e10, e9, e8, e7, e6, e5, e4, e3, e2, e1, most_is) (simp append_assoc)
