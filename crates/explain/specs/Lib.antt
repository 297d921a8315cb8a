-- To be believed, in the order of the papers: what it is for a capture to be explained, the verdict, the judge lines, the
-- causes that are shown. What a capture is stands in `basics`.
pub mod Explained
pub mod Verdict
pub mod Lines
pub mod Causes
-- Need not be believed: what the judge computes, as the contracts inside the crate cite it. That it is exact is proved.
pub mod Hold
pub mod Cause
pub mod Trace
pub mod Scan
pub mod Filling
