use Rattle.journal_treecalls.proofs.Learned.{IfOk-like, in-name, in-parent, in-dot, in-none, in-long}
use Rattle.journal_treecalls.proofs.lookups.lookup_in.Goals as goal

pub returns-in-Dot-clause-learns : goal.returns-in-Dot-clause-learns
returns-in-Dot-clause-learns g c = in-dot _ _ (g.T.TreeDisk.are_sound c.args.disk.now) c.args.number c.args.directory.now c.args.name.now c.name_kind.result c.name_kind.ensures (λ V m. m) c.found.result c.in-Dot.is c.found.ensures

pub returns-in-DotDot-clause-learns : goal.returns-in-DotDot-clause-learns
returns-in-DotDot-clause-learns g c = IfOk-like c.lookup_parent.result _ _ (λ reply l. in-parent _ _ (g.T.TreeDisk.are_sound c.lookup_parent.new.disk) c.args.number c.args.directory.now c.args.name.now c.name_kind.result c.name_kind.ensures reply c.in-DotDot.is l) c.lookup_parent.ensures.learns

pub returns-in-NoName-clause-learns : goal.returns-in-NoName-clause-learns
returns-in-NoName-clause-learns g c = in-none _ _ (g.T.TreeDisk.are_sound c.args.disk.now) c.args.number c.args.directory.now c.args.name.now c.name_kind.result c.name_kind.ensures (λ V m. m) c.in-NoName.is

pub returns-in-LongName-clause-learns : goal.returns-in-LongName-clause-learns
returns-in-LongName-clause-learns g c = in-long _ _ (g.T.TreeDisk.are_sound c.args.disk.now) c.args.number c.args.directory.now c.args.name.now c.name_kind.result c.name_kind.ensures (λ V m. m) c.in-LongName.is

pub returns-in-Name-clause-learns : goal.returns-in-Name-clause-learns
returns-in-Name-clause-learns g c = IfOk-like c.lookup_name.result _ _ (λ reply l. in-name _ _ (g.T.TreeDisk.are_sound c.lookup_name.new.disk) c.args.number c.args.directory.now c.args.name.now c.name_kind.result c.name_kind.ensures reply c.in-Name.is l) c.lookup_name.ensures.learns
