use Rattle.std.proofs.Common.{◌≡◌, ◌<◌, length, subst, rules}
use Rattle.std.specs.Prelude.{IfOk}
use Rattle.std.specs.Option.{option_to_list}
use Rattle.std.proofs.lemmas.Result.{IfOk-weaker}
use Rattle.merkle_store_theory.specs.StoreReads.{prefix_at}
use Rattle.merkle_store_theory.specs.StoreValue.{StoreValue}
use Rattle.merkle_verification.proofs.PartReads.{prefix_read}
use Rattle.merkle_verification.proofs.store.ProofStore.prefix_digest.Goals as goal

pub returns-clause-read : goal.returns-clause-read
returns-clause-read g c =
    let h = g.H.Hasher.hashing c.args.hasher.now in let i = c.self.inside in let ps = c.args.positions.now in
    let v : StoreValue g.row.D.Denot = record {
      leaves = i.leaves;
      inactive = i.inactive_peaks;
      bagging = i.bagging;
      root = i.root;
      start = i.range.start;
      end = i.range.end;
      pairs = i.pairs;
      suffix_peaks = i.suffix_peaks.items;
      prefix = i.prefix;
      suffix = i.suffix;
    } in
    let some : 0 < length ps = search rules in
    subst (λ (w : StoreValue g.row.D.Denot). IfOk c.fold_onto.result (λ o. option_to_list o ≡ prefix_at h w c.args.held ps)) c.self.view_is
    (IfOk-weaker c.fold_onto.result _ (λ o. option_to_list o ≡ prefix_at h v c.args.held ps) (λ o e. prefix_read h v c.args.held c.min.result ps o some c.min.ensures e) c.fold_onto.ensures.read)
