use Rattle.std.proofs.Common.{length}
use Rattle.garden.proofs.Paths.{never-part, no-shadow, handled-on}
use Rattle.garden.proofs.path.handle_common_prefixes.Goals as goal

pub returns-in_default : goal.returns-in_default
returns-in_default c = never-part c.args.room c.args.c c.args.prefix.now c.args.shadow.now c.args.nodes.now c.args.edges.now (length c.args.frames.now) c.part_at.result (c.part_at.ensures.1 c.args.nodes.now) c.in_default.is

pub returns-in_default-follow : goal.returns-in_default-follow
returns-in_default-follow c =
    no-shadow c.args.room c.args.c c.args.prefix.now c.args.shadow.now c.args.nodes.now c.args.edges.now (length c.args.frames.now) c.part_at.result (c.part_at.ensures.1 c.args.nodes.now) c.in-Some.parting c.in-Some.is c.follow.result (c.follow.ensures.1 c.args.nodes.now) c.in_default-follow.is

pub returns : goal.returns
returns c =
    handled-on c.args.room c.args.c c.args.prefix.now c.args.shadow.now c.args.nodes.now c.args.edges.now (length c.args.frames.now) c.part_at.result (c.part_at.ensures.1 c.args.nodes.now) c.in-Some.parting c.in-Some.is c.follow.result (c.follow.ensures.1 c.args.nodes.now) c.in-Some-follow.t c.in-Some-follow.is c.graft_at.result c.graft_at.new.nodes c.graft_at.new.edges c.graft_at.ensures
