use Rattle.std.proofs.Common.{arith}
use Rattle.cluster_state.specs.Parts.{state_of}
use Rattle.cluster_state.proofs.StateLemmas.{sound-ended}
use Rattle.cluster_state.proofs.cluster.Cluster.finish_until.Goals as goal

pub drop_until-freed-requires : goal.drop_until-freed-requires
drop_until-freed-requires g c = (let s = c.self.invariant.sound in omega (arith, s.fits, s.limited))

pub invariant_of-self : goal.invariant_of-self
invariant_of-self g c =
    let s = sound-ended (state_of c.self.inside) c.args.t c.self.invariant.sound in
    record {
      accounted = omega (arith, c.self.invariant.accounted, c.drop_until-freed.ensures.freed);
      sound = rw c.drop_until-freed.ensures.running s;
    }
