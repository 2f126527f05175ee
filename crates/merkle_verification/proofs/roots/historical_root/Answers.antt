use Rattle.std.proofs.Common.{◌≡◌, ◌<◌, ◌≤◌, Some, length, length-take, map, take, IfOk, arith, ap, sym, ◌∙◌, refl, inl, inr, subst}
use Rattle.std.specs.Prelude.{is_ok}
use Rattle.std.proofs.lemmas.Bool.{false≢true}
use Rattle.std.proofs.lemmas.Bool.Decides.{leb_tells}
use Rattle.merkle_base.specs.Digests.{peak_digests}
use Rattle.merkle_base.specs.Places.{peaks_of, peak_positions}
use Rattle.merkle_base.specs.Root.{list_root, peaks_root}
use Rattle.merkle_base.specs.Scheme.{Scheme}
use Rattle.merkle_verification.specs.HistoricalRoots.{IsBuiltRoot, RefusesRoot}
use Rattle.merkle_verification.proofs.HeldReads.{read_held}
use Rattle.merkle_verification.proofs.PeakReads.{all_held, answered_root, as_many, peaks_shown, refused_root}
use Rattle.merkle_verification.proofs.roots.historical_root.Goals as goal

pub returns-then-not-is_valid-clause-held : goal.returns-then-not-is_valid-clause-held
returns-then-not-is_valid-clause-held g c = λ le few held. absurd (false≢true (c.if-not-is_valid.ensures.1 le))

pub returns-then-not-is_valid-clause-err : goal.returns-then-not-is_valid-clause-err
returns-then-not-is_valid-clause-err g c =
    let n = c.args.leaves in
    let max = g.R.Family.Family.MAX_LEAVES in
    let over : max < n = elim (leb_tells n max) [ inl h ↦ absurd (false≢true (c.if-not-is_valid.ensures.1 h.1)) | inr h ↦ h.1 ] in
    refused_root (g.R.Readable.node c.args.reader.now) g.R.Family.Family.rule max n c.args.inactive _ (inl (over, refl))

pub returns-then-inactive-peak_count-clause-held : goal.returns-then-inactive-peak_count-clause-held
returns-then-inactive-peak_count-clause-held g c = λ le few held. absurd (omega (arith, c.if-inactive-peak_count.true, c.peak_count.ensures, few))

pub returns-then-inactive-peak_count-clause-err : goal.returns-then-inactive-peak_count-clause-err
returns-then-inactive-peak_count-clause-err g c =
    let rule = g.R.Family.Family.rule in
    let many : length (peaks_of rule c.args.leaves) < c.args.inactive = omega (arith, c.if-inactive-peak_count.true, c.peak_count.ensures) in
    refused_root (g.R.Readable.node c.args.reader.now) rule g.R.Family.Family.MAX_LEAVES c.args.leaves c.args.inactive _ (inr (c.if-not-is_valid.ensures.0 refl, inl (many, refl)))

pub returns-in-Ok-clause-built : goal.returns-in-Ok-clause-built
returns-in-Ok-clause-built g c =
    let s = g.H.Hasher.scheme c.args.hasher.now in
    let rule = g.R.Family.Family.rule in
    let node = g.R.Readable.node c.args.reader.now in
    let n = c.args.leaves in
    let k = c.args.inactive in
    let peaks = c.front.result.now in
    let read : map Some peaks ≡ map node (peak_positions rule n) = ap (map Some) c.front.ensures ∙ c.in-Ok.ensures.read in
    let enough : k ≤ length peaks = omega (arith, c.if-inactive-peak_count.false, c.peak_count.ensures, as_many node rule n peaks read) in
    subst (λ r. IfOk r (IsBuiltRoot s rule node n k)) (sym (c.root.ensures.ok enough)) (peaks, read, enough, refl)

pub returns-in-Ok-clause-honest : goal.returns-in-Ok-clause-honest
returns-in-Ok-clause-honest g c = λ X shows within.
    let s = g.H.Hasher.scheme c.args.hasher.now in
    let h = g.H.Hasher.hashing c.args.hasher.now in
    let rule = g.R.Family.Family.rule in
    let node = g.R.Readable.node c.args.reader.now in
    let n = c.args.leaves in
    let k = c.args.inactive in
    let xs = take n X in
    let peaks = c.front.result.now in
    let read : map Some peaks ≡ map node (peak_positions rule n) = ap (map Some) c.front.ensures ∙ c.in-Ok.ensures.read in
    let enough : k ≤ length peaks = omega (arith, c.if-inactive-peak_count.false, c.peak_count.ensures, as_many node rule n peaks read) in
    let long : length xs ≡ n = omega (arith, within, length-take n X) in
    let same : peaks_root s n k k peaks ≡ list_root s xs k =
    ap (λ ds. peaks_root s n k k ds) (peaks_shown h rule (g.R.Readable.size c.args.reader.now) node X shows n within peaks read)
    ∙ ap (λ l. peaks_root s l k k (peak_digests h rule xs)) (sym long)
    ∙ ap (λ (t : Scheme _). peaks_root s (length xs) k k (peak_digests t.hashing t.rule xs)) (sym (g.met.H.Hasher.scheme_is c.args.hasher.now)) in
    subst (λ r. IfOk r (λ root. root ≡ list_root s xs k)) (sym (c.root.ensures.ok enough)) same

pub returns-in-Ok-clause-held : goal.returns-in-Ok-clause-held
returns-in-Ok-clause-held g c = λ le few held.
    let rule = g.R.Family.Family.rule in
    let node = g.R.Readable.node c.args.reader.now in
    let peaks = c.front.result.now in
    let read : map Some peaks ≡ map node (peak_positions rule c.args.leaves) = ap (map Some) c.front.ensures ∙ c.in-Ok.ensures.read in
    ap is_ok (c.root.ensures.ok (omega (arith, few, as_many node rule c.args.leaves peaks read)))

pub returns-in-Ok-clause-err : goal.returns-in-Ok-clause-err
returns-in-Ok-clause-err g c =
    let rule = g.R.Family.Family.rule in
    let max = g.R.Family.Family.MAX_LEAVES in
    let node = g.R.Readable.node c.args.reader.now in
    let n = c.args.leaves in
    let k = c.args.inactive in
    let peaks = c.front.result.now in
    let read : map Some peaks ≡ map node (peak_positions rule n) = ap (map Some) c.front.ensures ∙ c.in-Ok.ensures.read in
    let few : k ≤ length (peaks_of rule n) = omega (arith, c.if-inactive-peak_count.false, c.peak_count.ensures) in
    subst (λ r. RefusesRoot rule max n k node r) (sym (c.root.ensures.ok (omega (arith, few, as_many node rule n peaks read))))
    (answered_root node rule max n k _ (c.if-not-is_valid.ensures.0 refl) few (all_held node (peak_positions rule n) peaks read))

pub returns-in-Err-clause-held : goal.returns-in-Err-clause-held
returns-in-Err-clause-held g c = λ le few held.
    let rule = g.R.Family.Family.rule in
    absurd (read_held rule c.args.leaves c.args.inactive (g.R.Readable.node c.args.reader.now) (peak_positions rule c.args.leaves) few held c.in-Err.error (inr (few, c.in-Err.ensures.missing)))

pub returns-in-Err-clause-err : goal.returns-in-Err-clause-err
returns-in-Err-clause-err g c =
    let rule = g.R.Family.Family.rule in
    let few : c.args.inactive ≤ length (peaks_of rule c.args.leaves) = omega (arith, c.if-inactive-peak_count.false, c.peak_count.ensures) in
    refused_root (g.R.Readable.node c.args.reader.now) rule g.R.Family.Family.MAX_LEAVES c.args.leaves c.args.inactive c.in-Err.error
    (inr (c.if-not-is_valid.ensures.0 refl, inr (few, c.in-Err.ensures.missing)))
