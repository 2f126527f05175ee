use Rattle.std.proofs.Common.{◌≡◌, ◌-◌, ◌<◌, length, take, ap, ◌∙◌, subst, rules}
use Rattle.std.specs.Prelude.{IfOk}
use Rattle.std.specs.Option.{option_to_list}
use Rattle.std.proofs.lemmas.Result.{IfOk-weaker}
use Rattle.merkle_store_theory.specs.StoreReads.{suffix_at}
use Rattle.merkle_store_theory.specs.StoreValue.{StoreValue}
use Rattle.merkle_verification.proofs.PartReads.{suffix_read}
use Rattle.merkle_verification.proofs.store.ProofStore.suffix_digest.Goals as goal

pub returns-in-Ok-clause-read : goal.returns-in-Ok-clause-read
returns-in-Ok-clause-read g c =
    let h = g.H.Hasher.hashing c.args.hasher.now in let i = c.self.inside in let ps = c.args.positions.now in
    let v : StoreValue g.row.D.Denot = record {
      leaves = i.leaves;
      inactive = i.inactive_peaks;
      bagging = i.bagging;
      root = i.root;
      start = i.range.start;
      end = i.range.end;
      pairs = i.pairs;
      suffix_peaks = i.suffix_peaks.items;
      prefix = i.prefix;
      suffix = i.suffix;
    } in
    let some : 0 < length ps = search rules in
    let front = c.in-Ok.ensures.front ∙ ap (λ z. take (length ps - length z) ps) c.deref.ensures.value in
    subst (λ (w : StoreValue g.row.D.Denot). IfOk c.bag_onto.result (λ o. option_to_list o ≡ suffix_at h w ps)) c.self.view_is
    (IfOk-weaker c.bag_onto.result _ (λ o. option_to_list o ≡ suffix_at h v ps) (λ o e. suffix_read h v ps c.in-Ok.front.now o some front e) c.bag_onto.ensures.read)
