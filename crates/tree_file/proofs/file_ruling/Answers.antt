-- Rules 1 to 6, and then the records, asked one after the other.
use mathlib.Core.Path.{ap, ◌∙◌}
use lib.Dec.{leb, eqb}
use lib.ListN.{length}
use Rattle.model.specs.File.{most_nodes, most_budget, first_version, third_version, record_at}
use Rattle.model.specs.Rules.{records_verdict, file_verdict}
use Rattle.tree_file.proofs.Rulings.{asked, passes, stops, both_pass, first_breaks, second_breaks, refused_as}
use Rattle.tree_file.proofs.file_ruling.Goals as goal

pub returns-in_err-ask : goal.returns-in_err-ask
unfolding file_verdict
returns-in_err-ask c =
    refused_as _ _ c.from_residual.ensures.1
    (stops _ _ c.in_err-ask.ensures)

pub returns-in_err-ask-2 : goal.returns-in_err-ask-2
unfolding file_verdict
returns-in_err-ask-2 c =
    refused_as _ _ c.from_residual-in_err-ask-2.ensures.1
    (passes _ c.in_ok-ask.ensures
    (stops _ _ (asked _ _ c.in_err-ask-2.ensures c.is_marked.ensures)))

pub returns-in_err-ask-3 : goal.returns-in_err-ask-3
unfolding file_verdict
returns-in_err-ask-3 c =
    refused_as _ _ c.from_residual-in_err-ask-3.ensures.1
    (passes _ c.in_ok-ask.ensures
    (passes _ (asked _ _ c.in_ok-ask-2.ensures c.is_marked.ensures)
    (stops _ _ (first_breaks _ 3 0 _ _ (asked _ _ c.in_err-ask-3.ensures (ap (λ v. leb first_version v) (rw c.of-file.ensures at c.version-version.ensures)))))))

pub returns-in_err-ask-4 : goal.returns-in_err-ask-4
unfolding file_verdict
returns-in_err-ask-4 c =
    refused_as _ _ c.from_residual-in_err-ask-4.ensures.1
    (passes _ c.in_ok-ask.ensures
    (passes _ (asked _ _ c.in_ok-ask-2.ensures c.is_marked.ensures)
    (stops _ _ (second_breaks _ 3 0 _ _ (asked _ _ c.in_ok-ask-3.ensures (ap (λ v. leb first_version v) (rw c.of-file.ensures at c.version-version.ensures))) (asked _ _ c.in_err-ask-4.ensures (ap (λ v. leb v third_version) (rw c.of-file.ensures at c.version-version.ensures)))))))

pub returns-in_err-ask-5 : goal.returns-in_err-ask-5
unfolding file_verdict
returns-in_err-ask-5 c =
    refused_as _ _ c.from_residual-in_err-ask-5.ensures.1
    (passes _ c.in_ok-ask.ensures
    (passes _ (asked _ _ c.in_ok-ask-2.ensures c.is_marked.ensures)
    (passes _ (both_pass 3 0 _ _ (asked _ _ c.in_ok-ask-3.ensures (ap (λ v. leb first_version v) (rw c.of-file.ensures at c.version-version.ensures))) (asked _ _ c.in_ok-ask-4.ensures (ap (λ v. leb v third_version) (rw c.of-file.ensures at c.version-version.ensures))))
    (stops _ _ (first_breaks _ 4 0 _ _ (asked _ _ c.in_err-ask-5.ensures (ap (λ n. leb 1 n) (rw c.of-file.ensures at c.count-n.ensures))))))))

pub returns-in_err-ask-6 : goal.returns-in_err-ask-6
unfolding file_verdict
returns-in_err-ask-6 c =
    refused_as _ _ c.from_residual-in_err-ask-6.ensures.1
    (passes _ c.in_ok-ask.ensures
    (passes _ (asked _ _ c.in_ok-ask-2.ensures c.is_marked.ensures)
    (passes _ (both_pass 3 0 _ _ (asked _ _ c.in_ok-ask-3.ensures (ap (λ v. leb first_version v) (rw c.of-file.ensures at c.version-version.ensures))) (asked _ _ c.in_ok-ask-4.ensures (ap (λ v. leb v third_version) (rw c.of-file.ensures at c.version-version.ensures))))
    (stops _ _ (second_breaks _ 4 0 _ _ (asked _ _ c.in_ok-ask-5.ensures (ap (λ n. leb 1 n) (rw c.of-file.ensures at c.count-n.ensures))) (asked _ _ c.in_err-ask-6.ensures (ap (λ n. leb n most_nodes) (rw c.of-file.ensures at c.count-n.ensures))))))))

pub returns-in_err-ask-7 : goal.returns-in_err-ask-7
unfolding file_verdict
returns-in_err-ask-7 c =
    refused_as _ _ c.from_residual-in_err-ask-7.ensures.1
    (passes _ c.in_ok-ask.ensures
    (passes _ (asked _ _ c.in_ok-ask-2.ensures c.is_marked.ensures)
    (passes _ (both_pass 3 0 _ _ (asked _ _ c.in_ok-ask-3.ensures (ap (λ v. leb first_version v) (rw c.of-file.ensures at c.version-version.ensures))) (asked _ _ c.in_ok-ask-4.ensures (ap (λ v. leb v third_version) (rw c.of-file.ensures at c.version-version.ensures))))
    (passes _ (both_pass 4 0 _ _ (asked _ _ c.in_ok-ask-5.ensures (ap (λ n. leb 1 n) (rw c.of-file.ensures at c.count-n.ensures))) (asked _ _ c.in_ok-ask-6.ensures (ap (λ n. leb n most_nodes) (rw c.of-file.ensures at c.count-n.ensures))))
    (stops _ _ (asked _ _ c.in_err-ask-7.ensures (ap (λ k. leb k most_budget) (rw c.of-file.ensures at c.budget.ensures))))))))

pub returns-in_err-ask-8 : goal.returns-in_err-ask-8
unfolding file_verdict
returns-in_err-ask-8 c =
    refused_as _ _ c.from_residual-in_err-ask-8.ensures.1
    (passes _ c.in_ok-ask.ensures
    (passes _ (asked _ _ c.in_ok-ask-2.ensures c.is_marked.ensures)
    (passes _ (both_pass 3 0 _ _ (asked _ _ c.in_ok-ask-3.ensures (ap (λ v. leb first_version v) (rw c.of-file.ensures at c.version-version.ensures))) (asked _ _ c.in_ok-ask-4.ensures (ap (λ v. leb v third_version) (rw c.of-file.ensures at c.version-version.ensures))))
    (passes _ (both_pass 4 0 _ _ (asked _ _ c.in_ok-ask-5.ensures (ap (λ n. leb 1 n) (rw c.of-file.ensures at c.count-n.ensures))) (asked _ _ c.in_ok-ask-6.ensures (ap (λ n. leb n most_nodes) (rw c.of-file.ensures at c.count-n.ensures))))
    (passes _ (asked _ _ c.in_ok-ask-7.ensures (ap (λ k. leb k most_budget) (rw c.of-file.ensures at c.budget.ensures)))
    (stops _ _ (asked _ _ c.in_err-ask-8.ensures (ap (λ e. eqb (length c.args.file.now) e) (rw c.of-file.ensures at c.record_at.ensures ∙ ap (record_at c.args.file.now) (rw c.of-file.ensures at c.count-n.ensures))))))))))

pub returns : goal.returns
unfolding file_verdict
returns c =
    passes _ c.in_ok-ask.ensures
    (passes _ (asked _ _ c.in_ok-ask-2.ensures c.is_marked.ensures)
    (passes _ (both_pass 3 0 _ _ (asked _ _ c.in_ok-ask-3.ensures (ap (λ v. leb first_version v) (rw c.of-file.ensures at c.version-version.ensures))) (asked _ _ c.in_ok-ask-4.ensures (ap (λ v. leb v third_version) (rw c.of-file.ensures at c.version-version.ensures))))
    (passes _ (both_pass 4 0 _ _ (asked _ _ c.in_ok-ask-5.ensures (ap (λ n. leb 1 n) (rw c.of-file.ensures at c.count-n.ensures))) (asked _ _ c.in_ok-ask-6.ensures (ap (λ n. leb n most_nodes) (rw c.of-file.ensures at c.count-n.ensures))))
    (passes _ (asked _ _ c.in_ok-ask-7.ensures (ap (λ k. leb k most_budget) (rw c.of-file.ensures at c.budget.ensures)))
    (passes _ (asked _ _ c.in_ok-ask-8.ensures (ap (λ e. eqb (length c.args.file.now) e) (rw c.of-file.ensures at c.record_at.ensures ∙ ap (record_at c.args.file.now) (rw c.of-file.ensures at c.count-n.ensures))))
    (rw c.of-file.ensures at c.records_ruling.ensures ∙ ap (records_verdict c.args.file.now) (rw c.of-file.ensures at c.count-n.ensures)))))))
