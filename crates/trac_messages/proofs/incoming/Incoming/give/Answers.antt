use Rattle.std.proofs.Common.{[], ap, subst, ◌∙◌}
use Rattle.std.proofs.lemmas.List.{append-nil}
use Rattle.trac_messages.specs.Frames.{frames_of}
use Rattle.trac_messages.specs.Incoming.{IsFront}
use Rattle.trac_messages.proofs.Given.{gives_beyond, gives_cut, gives_end, gives_message, gives_silent, no_skip}
use Rattle.trac_messages.proofs.incoming.Incoming.give.Goals as goal

pub pass-requires : goal.pass-requires
pass-requires g c =
    let front = subst (IsFront c.args.self.now.bytes c.args.self.now.ended) c.in-Beyond.is c.requires.front in
    no_skip c.args.self.now _ _ c.requires.none (front.1 [])

pub pass-requires-in-Unannounced : goal.pass-requires-in-Unannounced
pass-requires-in-Unannounced g c =
    let front = subst (IsFront c.args.self.now.bytes c.args.self.now.ended) c.in-Unannounced.is c.requires.front in
    no_skip c.args.self.now _ _ c.requires.none (front [])

pub returns-in-Whole-clause-frames : goal.returns-in-Whole-clause-frames
returns-in-Whole-clause-frames g c =
    let front = subst (IsFront c.args.self.now.bytes c.args.self.now.ended) c.in-Whole.is c.requires.front in
    gives_message c.args.self.now c.lend.new.self c.in-Whole.size c.in-Whole.len (no_skip c.args.self.now _ _ c.requires.none (front.1 [])) front.0 front.1
    c.lend.ensures.message c.lend.ensures.bytes c.lend.ensures.skip

pub returns-in-Beyond-clause-frames : goal.returns-in-Beyond-clause-frames
returns-in-Beyond-clause-frames g c =
    let front = subst (IsFront c.args.self.now.bytes c.args.self.now.ended) c.in-Beyond.is c.requires.front in
    gives_beyond c.args.self.now c.pass.new.self c.pass-in-Beyond.new.self c.in-Beyond.size c.in-Beyond.len (no_skip c.args.self.now _ _ c.requires.none (front.1 [])) front.1
    c.pass.ensures.coming c.pass-in-Beyond.ensures.coming

pub returns-in-Unannounced-clause-frames : goal.returns-in-Unannounced-clause-frames
returns-in-Unannounced-clause-frames g c =
    let front = subst (IsFront c.args.self.now.bytes c.args.self.now.ended) c.in-Unannounced.is c.requires.front in
    gives_silent c.args.self.now c.pass-in-Unannounced.new.self c.in-Unannounced.size (no_skip c.args.self.now _ _ c.requires.none (front [])) front
    c.pass-in-Unannounced.ensures.coming

pub returns-in-Broken-clause-frames : goal.returns-in-Broken-clause-frames
returns-in-Broken-clause-frames g c =
    let front = subst (IsFront c.args.self.now.bytes c.args.self.now.ended) c.in-Broken.is c.requires.front in
    gives_cut c.args.self.now c.pass_all.new.self (no_skip c.args.self.now _ _ c.requires.none (ap frames_of (append-nil c.args.self.now.bytes) ∙ front.1)) front.0 front.1
    c.pass_all.ensures.bytes c.pass_all.ensures.skip c.pass_all.ensures.ended

pub returns-in-End-clause-frames : goal.returns-in-End-clause-frames
returns-in-End-clause-frames g c =
    let front = subst (IsFront c.args.self.now.bytes c.args.self.now.ended) c.in-End.is c.requires.front in
    gives_end c.args.self.now front.1 front.0
