pub mod RootSplits
